-- The code tables, as a surveyor reads them beside the object catalogues BGT and IMGeo: what each attribute of each kind may
-- say. The texts of a table stand in rising order of bytes: a dash, capitals, an underscore, small letters.
use Rattle.std.specs.Prelude.{ℕ, List, [], ◌∷◌, codes}
use Rattle.code_tables.specs.declared.table.Table.{Table}
use Rattle.code_tables.specs.declared.table.Table.TheVariants.{WegdeelFunctie, WegdeelVoorkomen, OndersteunendWegdeelFunctie, OndersteunendWegdeelVoorkomen, BegroeidVoorkomen, OnbegroeidVoorkomen, WaterdeelSoort, OndersteunendWaterdeelSoort, OverigBouwwerkSoort, KunstwerkdeelSoort, ScheidingSoort, OverbruggingsdeelSoort}

-- the texts that a table lists
abbrev pub values_of : Table → List (List ℕ)
values_of WegdeelFunctie =
    codes "OV-baan" ∷
    codes "baan_voor_vliegverkeer" ∷
    codes "fietspad" ∷
    codes "inrit" ∷
    codes "overweg" ∷
    codes "parkeervlak" ∷
    codes "rijbaan_autosnelweg" ∷
    codes "rijbaan_autoweg" ∷
    codes "rijbaan_lokale_weg" ∷
    codes "rijbaan_regionale_weg" ∷
    codes "ruiterpad" ∷
    codes "spoorbaan" ∷
    codes "transitie" ∷
    codes "voetgangersgebied" ∷
    codes "voetpad" ∷
    codes "voetpad_op_trap" ∷
    codes "woonerf" ∷ []
values_of WegdeelVoorkomen =
    codes "gesloten_verharding" ∷
    codes "half_verhard" ∷
    codes "onverhard" ∷
    codes "open_verharding" ∷
    codes "transitie" ∷ []
values_of OndersteunendWegdeelFunctie =
    codes "berm" ∷
    codes "transitie" ∷
    codes "verkeerseiland" ∷ []
values_of OndersteunendWegdeelVoorkomen =
    codes "gesloten_verharding" ∷
    codes "groenvoorziening" ∷
    codes "half_verhard" ∷
    codes "onverhard" ∷
    codes "open_verharding" ∷
    codes "transitie" ∷ []
values_of BegroeidVoorkomen =
    codes "boomteelt" ∷
    codes "bouwland" ∷
    codes "duin" ∷
    codes "fruitteelt" ∷
    codes "gemengd_bos" ∷
    codes "grasland_agrarisch" ∷
    codes "grasland_overig" ∷
    codes "groenvoorziening" ∷
    codes "heide" ∷
    codes "houtwal" ∷
    codes "kwelder" ∷
    codes "loofbos" ∷
    codes "moeras" ∷
    codes "naaldbos" ∷
    codes "rietland" ∷
    codes "struiken" ∷
    codes "transitie" ∷ []
values_of OnbegroeidVoorkomen =
    codes "erf" ∷
    codes "gesloten_verharding" ∷
    codes "half_verhard" ∷
    codes "onverhard" ∷
    codes "open_verharding" ∷
    codes "transitie" ∷
    codes "zand" ∷ []
values_of WaterdeelSoort =
    codes "greppel_droge_sloot" ∷
    codes "transitie" ∷
    codes "waterloop" ∷
    codes "watervlakte" ∷
    codes "zee" ∷ []
values_of OndersteunendWaterdeelSoort =
    codes "oever_slootkant" ∷
    codes "slik" ∷
    codes "transitie" ∷ []
values_of OverigBouwwerkSoort =
    codes "bassin" ∷
    codes "bezinkbak" ∷
    codes "lage_trafo" ∷
    codes "niet-bgt" ∷
    codes "open_loods" ∷
    codes "opslagtank" ∷
    codes "overkapping" ∷
    codes "transitie" ∷
    codes "windturbine" ∷ []
values_of KunstwerkdeelSoort =
    codes "gemaal" ∷
    codes "hoogspanningsmast" ∷
    codes "niet-bgt" ∷
    codes "perron" ∷
    codes "sluis" ∷
    codes "steiger" ∷
    codes "strekdam" ∷
    codes "stuw" ∷
    codes "transitie" ∷ []
values_of ScheidingSoort =
    codes "damwand" ∷
    codes "geluidsscherm" ∷
    codes "hek" ∷
    codes "kademuur" ∷
    codes "muur" ∷
    codes "niet-bgt" ∷
    codes "transitie" ∷
    codes "walbescherming" ∷ []
values_of OverbruggingsdeelSoort =
    codes "dek" ∷
    codes "landhoofd" ∷
    codes "pijler" ∷
    codes "pyloon" ∷
    codes "sloof" ∷
    codes "transitie" ∷ []
