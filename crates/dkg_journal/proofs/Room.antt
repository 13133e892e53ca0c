-- Room for the place of a section.
use Rattle.std.proofs.Common.{◌≡◌, ℕ, Bool, true, false, cond, Option, Some, None, is_some, refl, sym, ◌∙◌, ap, arith}
use Rattle.std.specs.FinMap.{get, insert, get-insert}
use Rattle.std.specs.Cmp.{nat_cmp_total}
use Rattle.std.specs.Ordering.{nat_cmp, eq_by_cmp, is_eq}
use Rattle.std.proofs.lemmas.Bool.Decides.{nat_tests}
use Rattle.dkg_journal.specs.Places.{Places, has_room, flat_place, place_at}

itself : (n : ℕ) → is_eq (nat_cmp n n) ≡ true
itself n = grind (arith, nat_tests)

equal_keys : (a b : ℕ) → is_eq (nat_cmp a b) ≡ true → a ≡ b
equal_keys a b is = grind (arith, nat_tests)

pub room_made : (places places' : Places) (section : ℕ) → places' ≡ insert places section None → has_room places' section ≡ true
room_made places places' section put = ap (λ (m : Places). has_room m section) put ∙ ap is_some (get-insert nat_cmp_total places section None section ∙ ap (λ (b : Bool). cond b (Some None) (get places section)) (itself section))

pub room_places : (places places' : Places) (section : ℕ) → get places section ≡ None → places' ≡ insert places section None → (s : ℕ) → place_at places' s ≡ place_at places s
room_places places places' section none put s =
    ap (λ (m : Places). flat_place (get m s)) put ∙ ap flat_place (get-insert nat_cmp_total places section None s) ∙ by_test (eq_by_cmp nat_cmp s section) refl
  where
    by_test : (b : Bool) → eq_by_cmp nat_cmp s section ≡ b → flat_place (cond b (Some None) (get places s)) ≡ flat_place (get places s)
    by_test true is = sym (ap flat_place (ap (get places) (equal_keys s section is) ∙ none))
    by_test false is = refl

-- a place put where there was room
pub room_set : (o : Option (Option ℕ)) → is_some o ≡ true → is_some o ≡ true
room_set o is = is
