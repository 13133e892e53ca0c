-- What a union has.
use Rattle.std.proofs.Common.{◌≡◌, ℕ, List, ◌++◌, ◌⊎◌, inl, inr}
use Rattle.std.specs.Prelude.{Contains}
use Rattle.std.proofs.lemmas.List.Elements.{Contains-append_left, Contains-append_right, Contains-append_cases}
use Rattle.dkg_values.specs.Rising.{IsSetOf}

pub is_union : (a b keys set : List ℕ) → keys ≡ a ++ b → IsSetOf (λ x. Contains keys x) set → IsSetOf (λ x. Contains a x ⊎ Contains b x) set
is_union a b keys set is h =
    record {
      rising = h.rising;
      has = λ x m. h.has x (rw is (elim m [ inl l ↦ Contains-append_left a b x l | inr r ↦ Contains-append_right a b x r ]));
      only = λ x m. Contains-append_cases a b x (rw is at (h.only x m));
    }
