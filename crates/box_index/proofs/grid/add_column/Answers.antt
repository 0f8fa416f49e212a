use Rattle.std.proofs.Common.{inr, sym, subst, ◌∙◌, List}
use Rattle.std.specs.List.{Contains}
use Rattle.std.specs.Map.Iter.{deref_pair}
use Rattle.std.proofs.lemmas.Map.Iter.{rest_more, rest_all}
use Rattle.rd_plane.specs.Bounds.{Box}
use Rattle.box_index.specs.declared.grid.Filed.{Filed}
use Rattle.box_index.specs.Filing.{filed}
use Rattle.box_index.proofs.Filed.{filed_entry, in_range, kept_entry, sought_all, sought_more}
use Rattle.box_index.proofs.grid.add_column.Goals as goal

pub loop-place-init : goal.loop-place-init
loop-place-init c = record { sought = λ q own k m. inr k; kept = λ s k. k }

pub loop-place-preserved : goal.loop-place-preserved
loop-place-preserved c = record {
  sought
      = sought_more (λ (p : Filed). p.slot) c.args.bounds.now _ c.loop-place.place-iterator c.next.new.self
      (c.in-Some.place.now, c.in-Some.own.now) _ _
      (rest_more deref_pair _ _ _ _ c.in-Some.is c.next.ensures.steps) c.in_ok-add_meeting.ensures.here c.in_ok-add_meeting.ensures.kept
      c.loop-place.invariant.sought;
  kept = λ s k. c.in_ok-add_meeting.ensures.kept s (c.loop-place.invariant.kept s k);
}

pub returns-clause-here : goal.returns-clause-here
returns-clause-here c = λ row slot own s n g m. sought_all (λ (p : Filed). p.slot) c.args.bounds.now _ c.loop-place.place-iterator _
    (rest_all deref_pair _ _ _ c.in-None.is c.next.ensures.steps) c.loop-place.invariant.sought (filed c.args.column row slot) own
    (subst (λ (es : List (Filed × Box)). Contains es (filed c.args.column row slot, own))
    (sym (c.into_iter-place-iterator.ensures.into_iter_gives ∙ c.range-place-items.ensures.between tt))
    (kept_entry _ _ (filed c.args.column row slot, own) (filed_entry _ _ own g) (in_range c.args.column _ _ row slot s n))) m

pub returns-clause-kept : goal.returns-clause-kept
returns-clause-kept c = c.loop-place.invariant.kept
