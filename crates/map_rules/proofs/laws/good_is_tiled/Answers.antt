use Rattle.map_rules.proofs.laws.good_is_tiled.Goals as goal

pub returns : goal.returns
returns c = λ s g holder moment p off. (g.maps moment holder).tiled p off
