-- The awaited height and the awaited epoch of a life never fall from one of its events to a later one.
use Rattle.std.proofs.Common.{◌≡◌, Bool, true, false, nat_le, ◌≤◌, ◌++◌, ◌∷◌, [], ℕ, zero, suc, List, refl, sym, ◌∙◌, ap, subst, take, max, arith, fold, filter_map}
use Rattle.std.proofs.lemmas.Bool.Decides.{nat_tests}
use Rattle.std.proofs.lemmas.List.Elements.{filter_map-append}
use Rattle.std.proofs.lemmas.List.Sums.{fold-append}
use Rattle.dkg_text.specs.declared.script.Event.{Event}
use Rattle.dkg_text.specs.declared.script.Life.{Life}
use Rattle.dkg_script.specs.Blocks.{ScriptBlock, numbered_block, delivered_number, events_come_to}
use Rattle.dkg_script.specs.Position.{awaited_epoch, awaited_height_after, first_height}
use Rattle.dkg_script.specs.Setting.{Setting, blocks_per_epoch}
use Rattle.dkg_lives.proofs.Delivered.{epochs_rise}

abbrev higher : ℕ → ScriptBlock → ℕ
higher height b = max height (suc b.height)

rises : (bs : List ScriptBlock) (height : ℕ) → height ≤ fold higher height bs
rises [] height = omega arith
rises (b ∷ bs) height = let more = rises bs (max height (suc b.height)) in below (fold higher (max height (suc b.height)) bs) height b.height more
  where
    below : (m h k : ℕ) → max h (suc k) ≤ m → h ≤ m
    below m h k more = omega (arith, more)

-- one more is taken, or none is left
take_next : {A : Type 0} (xs : List A) (j : ℕ) → (more : List A) × (take (suc j) xs ≡ take j xs ++ more)
take_next [] zero = ([], refl)
take_next [] (suc j) = ([], refl)
take_next (x ∷ xs) zero = (x ∷ [], refl)
take_next {A} (x ∷ xs) (suc j) = let rest = take_next xs j in (rest.0, ap (λ (zs : List A). x ∷ zs) rest.1)

module _ (s : Setting) (l : ℕ) (life : Life) where
  abbrev events : List Event
  events = events_come_to life.cut life.events

  abbrev those : List Event → List ScriptBlock
  those es = filter_map (numbered_block s) (filter_map delivered_number es)

  height_next : (j : ℕ) → awaited_height_after s l life j ≤ awaited_height_after s l life (suc j)
  unfolding awaited_height_after
  height_next j =
      let next = take_next events j in
      let parts : those (take (suc j) events) ≡ those (take j events) ++ those next.0
      = ap those next.1 ∙ ap (λ (ns : List ℕ). filter_map (numbered_block s) ns) (filter_map-append delivered_number (take j events) next.0) ∙ filter_map-append (numbered_block s) (filter_map delivered_number (take j events)) (filter_map delivered_number next.0) in
      let sum : fold higher (first_height s l life) (those (take (suc j) events)) ≡ fold higher (fold higher (first_height s l life) (those (take j events))) (those next.0)
      = ap (λ (bs : List ScriptBlock). fold higher (first_height s l life) bs) parts ∙ fold-append higher (first_height s l life) (those (take j events)) (those next.0) in
      subst (λ (n : ℕ). fold higher (first_height s l life) (those (take j events)) ≤ n) (sym sum) (rises (those next.0) (fold higher (first_height s l life) (those (take j events))))

  pub heights_rise : (a b : ℕ) → a ≤ b → awaited_height_after s l life a ≤ awaited_height_after s l life b
  heights_rise a zero low = subst (λ (n : ℕ). awaited_height_after s l life n ≤ awaited_height_after s l life 0) (none a low) (itself (awaited_height_after s l life 0))
    where
      itself : (n : ℕ) → n ≤ n
      itself n = omega arith

      none : (a : ℕ) → a ≤ 0 → 0 ≡ a
      none a low = omega (arith, low)
  heights_rise a (suc b) low = by_test (nat_le a b) refl (λ under. heights_rise a b under)
    where
      under : (a b : ℕ) → nat_le a b ≡ true → a ≤ b
      under a b test = grind (arith, nat_tests)

      equal : (a b : ℕ) → a ≤ suc b → nat_le a b ≡ false → suc b ≡ a
      equal a b low test = grind (arith, nat_tests)

      both : (a b c : ℕ) → a ≤ b → b ≤ c → a ≤ c
      both a b c one two = omega (arith, one, two)

      itself : (n : ℕ) → n ≤ n
      itself n = omega arith

      by_test : (t : Bool) → nat_le a b ≡ t → (a ≤ b → awaited_height_after s l life a ≤ awaited_height_after s l life b) → awaited_height_after s l life a ≤ awaited_height_after s l life (suc b)
      by_test true test on = both (awaited_height_after s l life a) (awaited_height_after s l life b) (awaited_height_after s l life (suc b)) (on (under a b test)) (height_next b)
      by_test false test on = subst (λ (n : ℕ). awaited_height_after s l life n ≤ awaited_height_after s l life (suc b)) (equal a b low test) (itself (awaited_height_after s l life (suc b)))

  pub awaited_rise : 1 ≤ blocks_per_epoch s → (a b : ℕ) → a ≤ b → awaited_epoch s l life a ≤ awaited_epoch s l life b
  awaited_rise some a b low = epochs_rise (blocks_per_epoch s) (awaited_height_after s l life a) (awaited_height_after s l life b) some (heights_rise a b low)
