-- The blocks that the lives of a script use: block 0, those of anchors and those that are delivered.
use Rattle.std.proofs.Common.{◌≡◌, ℕ, ◌==◌, List, [], ◌∷◌, ◌++◌, Option, Some, None, Bool, true, false, cond, arith, refl, subst, filter_map, flat_map}
use Rattle.std.specs.Prelude.{option_map, option_to_list, slice_get, IfSome}
use Rattle.std.specs.List.{AllByRecursion, cons_option}
use Rattle.std.proofs.lemmas.Bool.Decides.{nat_tests}
use Rattle.dkg_text.specs.declared.script.Anchor.{Anchor}
use Rattle.dkg_text.specs.declared.script.Event.TheVariants.{Final}
use Rattle.dkg_text.specs.declared.script.Life.{Life}
use Rattle.dkg_script.specs.Blocks.{ScriptBlock, anchor_number, numbered_block, chain, chain_in, delivered_number, events_come_to, held_at_opening, used, used_in}
use Rattle.dkg_script.specs.Setting.{Setting, life_at}
use Rattle.dkg_lives.proofs.Living.{holds_at}

-- WHAT HOLDS OF ALL of a longer list

module _ {A : Type 0} (P : A → Type 0) where
  pub all_front : (xs ys : List A) → AllByRecursion P (xs ++ ys) → AllByRecursion P xs
  all_front [] ys all = tt
  all_front (x ∷ xs) ys all = (all.0, all_front xs ys all.1)

  pub all_back : (xs ys : List A) → AllByRecursion P (xs ++ ys) → AllByRecursion P ys
  all_back [] ys all = all
  all_back (x ∷ xs) ys all = all_back xs ys all.1

  pub all_parts : {B : Type 0} (g : B → List A) (bs : List B) → AllByRecursion P (flat_map g bs) → AllByRecursion (λ b. AllByRecursion P (g b)) bs
  all_parts g [] all = tt
  all_parts g (b ∷ bs) all = (all_front (g b) (flat_map g bs) all, all_parts g bs (all_back (g b) (flat_map g bs) all))

  by_result : (o : Option A) (rest : List A) → AllByRecursion P (cons_option o rest) → IfSome o P × AllByRecursion P rest
  by_result None rest all = (tt, all)
  by_result (Some a) rest all = all

  pub all_sources : {B : Type 0} (f : B → Option A) (bs : List B) → AllByRecursion P (filter_map f bs) → AllByRecursion (λ b. IfSome (f b) P) bs
  all_sources f [] all = tt
  all_sources f (b ∷ bs) all = let parts = by_result (f b) (filter_map f bs) all in (parts.0, all_sources f bs parts.1)

-- WHAT HOLDS OF EACH BLOCK THAT IS USED, in a life

module _ (s : Setting) (l : ℕ) (life : Life) (P : ScriptBlock → Type 0) (life_is : life_at s l ≡ Some life) (all : AllByRecursion P (used s)) where
  abbrev Numbered : ℕ → Type 0
  Numbered number = IfSome (numbered_block s number) P

  in_life : AllByRecursion P (used_in s life)
  unfolding used
  in_life = holds_at (λ its. AllByRecursion P (used_in s its)) s.script.lives l life (all_parts P (used_in s) s.script.lives all) life_is

  pub held : AllByRecursion Numbered (option_to_list (option_map anchor_number life.anchor) ++ life.held)
  held = all_sources P (numbered_block s) (option_to_list (option_map anchor_number life.anchor) ++ life.held) (all_front P (held_at_opening s life) _ in_life)

  -- .. of its anchor's
  pub of_anchor : (anchor : Anchor) → life.anchor ≡ Some anchor → IfSome (numbered_block s (anchor_number anchor)) P
  of_anchor anchor is = (rw is at (all_front Numbered (option_to_list (option_map anchor_number life.anchor)) life.held held)).0

  -- .. and of one that is delivered by an event that the life comes to
  pub of_delivered : (i number : ℕ) → slice_get (events_come_to life.cut life.events) i ≡ Some (Final number) → IfSome (numbered_block s number) P
  of_delivered i number is =
      let later = all_sources P (numbered_block s) _ (all_back P (held_at_opening s life) _ in_life) in
      let numbers = all_back Numbered _ (filter_map delivered_number (events_come_to life.cut life.events)) later in
      let events = all_sources Numbered delivered_number (events_come_to life.cut life.events) numbers in
      holds_at (λ event. IfSome (delivered_number event) Numbered) (events_come_to life.cut life.events) i (Final number) events is

-- A BLOCK OF THE CHAIN is one that is used, at its height

none_there : (b : ScriptBlock) → None ≡ Some b → ⊥
none_there b e = cc

some_is : (a b : ScriptBlock) → Some a ≡ Some b → a ≡ b
some_is a b e = cc

at_height : (a b : ℕ) → (a == b) ≡ true → a ≡ b
at_height a b test = grind (arith, nat_tests)

found_in : (P : ScriptBlock → Type 0) (bs : List ScriptBlock) (height : ℕ) (b : ScriptBlock) → AllByRecursion P bs → chain_in bs height ≡ Some b → P b × (b.height ≡ height)
found_in P [] height b all is = absurd (none_there b is)
found_in P (x ∷ bs) height b all is = by_test (x.height == height) refl is (found_in P bs height b all.1)
  where
    by_test : (t : Bool) → (x.height == height) ≡ t → cond t (Some x) (chain_in bs height) ≡ Some b → (chain_in bs height ≡ Some b → P b × (b.height ≡ height)) → P b × (b.height ≡ height)
    by_test true test is rest = subst (λ (y : ScriptBlock). P y × (y.height ≡ height)) (some_is x b is) (all.0, at_height x.height height test)
    by_test false test is rest = rest is

pub in_chain : (s : Setting) (P : ScriptBlock → Type 0) (height : ℕ) (b : ScriptBlock) → AllByRecursion P (used s) → chain s height ≡ Some b → P b × (b.height ≡ height)
in_chain s P height b all is = found_in P (used s) height b all is
