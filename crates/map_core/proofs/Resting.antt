-- A register that gives up what it tried is at rest again, and sound as before.
use Rattle.std.proofs.Common.{◌≡◌, ◌∙◌, Option, Some, None, sym, subst}
use Rattle.std.specs.Prelude.{option_map}
use Rattle.message_text.specs.declared.limits.Limits.{Limits}
use Rattle.message_text.specs.Limits.{IsValid}
use Rattle.map_rules.specs.Good.{IsSound}
use Rattle.map_rules.specs.State.{State}
use Rattle.map_core.specs.declared.held.Held.{Held}
use Rattle.map_core.specs.declared.tried.Tried.{Tried}
use Rattle.map_core.specs.Maps.{AreAtRest, AreMapsOf}
use Rattle.map_core.specs.Tried.{IsAtRest, IsReady, IsSoundThroughout, next_state, state_of}

pub rests_again : (limits : Limits) (old mid new : Held) (t : Option Tried) → option_map (next_state old) t ≡ None → IsValid limits
    → IsSound limits (state_of old)
    → AreMapsOf (state_of old) mid.maps × AreAtRest mid.maps → state_of mid ≡ state_of old → state_of new ≡ state_of mid → IsAtRest new
    → new.maps ≡ mid.maps
    → IsValid limits × IsReady new t × IsSoundThroughout limits new t
rests_again limits old mid new (Some t) none valid sound maps same back rest kept = cc
rests_again limits old mid new None none valid sound maps same back rest kept =
    let state : state_of old ≡ state_of new = sym (back ∙ same) in
    let here = subst (λ (s : State). AreMapsOf s new.maps) state (subst (AreMapsOf (state_of old)) (sym kept) maps.0) in
    (valid, (rest, here, subst AreAtRest (sym kept) maps.1), (subst (IsSound limits) state sound, tt))

-- a register of which no message is tried has the current maps
pub at_rest : (held : Held) (t : Option Tried) → option_map (next_state held) t ≡ None → IsReady held t
    → AreMapsOf (state_of held) held.maps × AreAtRest held.maps
at_rest held None none ready = (ready.1, ready.2)
at_rest held (Some t) none ready = cc
