-- Each kind stands in the list of them, so what a test says of the list holds for every kind.
use Rattle.std.proofs.Common.{◌≡◌, ℕ, true, List, [], ◌∷◌, refl, arith, subst, nat_lt}
use Rattle.std.specs.List.{All, Contains, list_all}
use Rattle.std.proofs.lemmas.Bool.{ltb-true}
use Rattle.std.proofs.lemmas.List.Sums.{AllPass-from_list_all}
use Rattle.field_text.specs.Forms.{IsFieldByte}
use Rattle.imgeo_types.specs.declared.kind.Kind.{Kind}
use Rattle.imgeo_types.specs.declared.kind.Kind.TheVariants.{Wegdeel, OndersteunendWegdeel, BegroeidTerreindeel, OnbegroeidTerreindeel, Waterdeel, OndersteunendWaterdeel, Pand, OverigBouwwerk, Kunstwerkdeel, Scheiding, OngeclassificeerdObject, Overbruggingsdeel, Tunneldeel}
use Rattle.imgeo_types.specs.Kinds.{word_of}

-- the kinds in their order
abbrev pub kinds : List Kind
kinds
    = Wegdeel ∷ OndersteunendWegdeel ∷ BegroeidTerreindeel ∷ OnbegroeidTerreindeel ∷ Waterdeel ∷ OndersteunendWaterdeel ∷ Pand ∷
    OverigBouwwerk ∷ Kunstwerkdeel ∷ Scheiding ∷ OngeclassificeerdObject ∷ Overbruggingsdeel ∷ Tunneldeel ∷ []

-- the list has each kind
pub listed : (k : Kind) → Contains kinds k
listed Wegdeel = (0, omega arith, refl)
listed OndersteunendWegdeel = (1, omega arith, refl)
listed BegroeidTerreindeel = (2, omega arith, refl)
listed OnbegroeidTerreindeel = (3, omega arith, refl)
listed Waterdeel = (4, omega arith, refl)
listed OndersteunendWaterdeel = (5, omega arith, refl)
listed Pand = (6, omega arith, refl)
listed OverigBouwwerk = (7, omega arith, refl)
listed Kunstwerkdeel = (8, omega arith, refl)
listed Scheiding = (9, omega arith, refl)
listed OngeclassificeerdObject = (10, omega arith, refl)
listed Overbruggingsdeel = (11, omega arith, refl)
listed Tunneldeel = (12, omega arith, refl)

solid : (w : List ℕ) → list_all (λ b. nat_lt 32 b) w ≡ true → All IsFieldByte w
solid w h i d inside = ltb-true 32 _ (AllPass-from_list_all (λ b. nat_lt 32 b) w h i d inside)

-- no word of a kind has a space or an end of a line in it
pub solid_word : (k : Kind) → All IsFieldByte (word_of k)
solid_word k =
    let at = listed k in
    let tested = AllPass-from_list_all (λ k. list_all (λ b. nat_lt 32 b) (word_of k)) kinds refl at.0 k at.1 in
    solid (word_of k) (subst (λ (k : Kind). list_all (λ b. nat_lt 32 b) (word_of k) ≡ true) at.2 tested)
