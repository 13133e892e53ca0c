-- Which epoch has begun and is awaited from step to step of a life over many epochs.
use Rattle.std.proofs.Common.{◌≡◌, ◌⊎◌, inl, inr, ℕ, zero, suc, ◌+◌, ◌-◌, ◌*◌, ◌<◌, ◌≤◌, List, [], ◌∷◌, ◌++◌, Option, Some, None, Bool, true, false, refl, sym, ap, subst, ◌∙◌, arith, take, filter_map}
use Rattle.std.specs.Prelude.{fold, max, nat_lt, slice_get, ◌==◌}
use Rattle.std.proofs.lemmas.Bool.Decides.{nat_tests}
use Rattle.std.proofs.lemmas.List.Elements.{filter_map-append}
use Rattle.std.proofs.lemmas.List.Sums.{fold-append}
use Rattle.dkg_ceremony.specs.Schedule.{epoch_of, last}
use Rattle.dkg_types.specs.Blocks as made
use Rattle.dkg_infos.specs.declared.directory.Unit as directory
use Rattle.dkg_text.specs.declared.script.Event.{Event}
use Rattle.dkg_text.specs.declared.script.Event.TheVariants.{Final}
use Rattle.dkg_text.specs.declared.script.Life.{Life}
use Rattle.dkg_script.specs.Blocks.{ScriptBlock, numbered_block, delivered_number, events_come_to}
use Rattle.dkg_script.specs.Position.{awaited_before, awaited_epoch, awaited_height_after, begun, delivered, first_height}
use Rattle.dkg_script.specs.Setting.{Setting, CutAt, blocks_per_epoch, is_oneshot, life_at}
use Rattle.dkg_core.proofs.Heights.{epoch_from, epoch_is, epoch_to, next_last}
use Rattle.dkg_lives.proofs.Awaiting.{HasHeight, IsReached, block_behind, event_behind}
use Rattle.dkg_lives.proofs.Currently.{begun_is}
use Rattle.dkg_lives.proofs.Delivered.{epochs_rise, from_first}

-- HEIGHTS RISE

rises : (bs : List ScriptBlock) (height : ℕ) → height ≤ fold (λ height b. max height (suc b.height)) height bs
rises [] height = omega arith
rises (b ∷ bs) height = let more = rises bs (max height (suc b.height)) in below (fold (λ height b. max height (suc b.height)) (max height (suc b.height)) bs) height b.height more
  where
    below : (m h k : ℕ) → max h (suc k) ≤ m → h ≤ m
    below m h k more = omega (arith, more)

-- the first of one more are the first, and others
one_longer : {A : Type 0} (xs : List A) (i : ℕ) → (rest : List A) × (take (suc i) xs ≡ take i xs ++ rest)
one_longer {A} [] zero = ([], refl)
one_longer {A} [] (suc i) = ([], refl)
one_longer {A} (x ∷ xs) zero = (x ∷ take 0 xs, refl)
one_longer {A} (x ∷ xs) (suc i) = let more = one_longer xs i in (more.0, ap (λ (ys : List A). x ∷ ys) more.1)

pub height_rises : (s : Setting) (l : ℕ) (life : Life) (i : ℕ) → awaited_height_after s l life i ≤ awaited_height_after s l life (suc i)
unfolding awaited_height_after
height_rises s l life i =
    let higher : ℕ → ScriptBlock → ℕ = λ height b. max height (suc b.height) in
    let more = one_longer (events_come_to life.cut life.events) i in
    let parts : delivered s life (suc i) ≡ delivered s life i ++ filter_map (numbered_block s) (filter_map delivered_number more.0)
    = ap (λ (es : List Event). filter_map (numbered_block s) (filter_map delivered_number es)) more.1
    ∙ ap (λ (ns : List ℕ). filter_map (numbered_block s) ns) (filter_map-append delivered_number (take i (events_come_to life.cut life.events)) more.0)
    ∙ filter_map-append (numbered_block s) (filter_map delivered_number (take i (events_come_to life.cut life.events))) (filter_map delivered_number more.0) in
    subst (λ (n : ℕ). fold higher (first_height s l life) (delivered s life i) ≤ n)
    (sym (ap (λ (bs : List ScriptBlock). fold higher (first_height s l life) bs) parts ∙ fold-append higher (first_height s l life) (delivered s life i) (filter_map (numbered_block s) (filter_map delivered_number more.0))))
    (rises (filter_map (numbered_block s) (filter_map delivered_number more.0)) (fold higher (first_height s l life) (delivered s life i)))

-- the height above one that isn't its epoch's last lies in the same epoch
not_last : (n h : ℕ) → 1 ≤ n → (h == last n (epoch_of n h)) ≡ false → epoch_of n (h + 1) ≡ epoch_of n h
not_last n h some apart = epoch_is n (epoch_of n h) (h + 1) (above (epoch_of n h * n) h (epoch_from n h)) (below (epoch_of n h * n) n h (epoch_to n h some) (other h (epoch_of n h * n + n - 1) apart))
  where
    above : (m h : ℕ) → m ≤ h → m ≤ h + 1
    above m h low = omega (arith, low)

    other : (a b : ℕ) → (a == b) ≡ false → a ≡ b → ⊥
    other a b test same = absurd (let yes : (a == b) ≡ true = grind (arith, nat_tests) in let wrong : true ≡ false = sym yes ∙ test in cc)

    below : (m n h : ℕ) → h < m + n → (h ≡ m + n - 1 → ⊥) → h + 1 < m + n
    below m n h less apart = by_order (nat_lt (h + 1) (m + n)) refl
      where
        by_order : (t : Bool) → nat_lt (h + 1) (m + n) ≡ t → h + 1 < m + n
        by_order true test = grind (arith, nat_tests)
        by_order false test = absurd (apart (let more : m + n ≤ h + 1 = grind (arith, nat_tests) in omega (arith, more, less)))

-- the next height lies in the same epoch or in the next
next_epoch : (n h : ℕ) → 1 ≤ n → epoch_of n (h + 1) ≤ epoch_of n h + 1
next_epoch n h some = by_last (h == last n (epoch_of n h)) refl
  where
    same : (a b : ℕ) → a ≡ b + 1 → a ≤ b + 1
    same a b is = omega (arith, is)

    here : (a b : ℕ) → a ≡ b → a ≤ b + 1
    here a b is = omega (arith, is)

    by_last : (t : Bool) → (h == last n (epoch_of n h)) ≡ t → epoch_of n (h + 1) ≤ epoch_of n h + 1
    by_last true is = same (epoch_of n (h + 1)) (epoch_of n h) (next_last n h some is)
    by_last false is = here (epoch_of n (h + 1)) (epoch_of n h) (not_last n h some is)

-- the larger is one of both
larger : (a h m : ℕ) → m ≡ max a h → (m ≡ a) ⊎ (m ≡ h)
larger a h m is = by_order (nat_lt a h) refl
  where
    by_order : (t : Bool) → nat_lt a h ≡ t → (m ≡ a) ⊎ (m ≡ h)
    by_order true test = let less : a < h = grind (arith, nat_tests) in inr (omega (arith, is, less))
    by_order false test = let less : h ≤ a = grind (arith, nat_tests) in inl (omega (arith, is, less))

module _ (s : Setting) (reshares : is_oneshot s ≡ false) (l : ℕ) (life : Life) (life_is : life_at s l ≡ Some life) (cuts : List (Option CutAt)) (some : 1 ≤ blocks_per_epoch s)
    (never_back : awaited_before s cuts l ≤ awaited_epoch s l life 0 + 1) where
  abbrev n : ℕ
  n = blocks_per_epoch s

  abbrev e : ℕ → ℕ
  e i = awaited_epoch s l life i

  abbrev b : ℕ → ℕ
  b i = begun s cuts l i

  pub epoch_rises : (i : ℕ) → e i ≤ e (suc i)
  epoch_rises i = epochs_rise n (awaited_height_after s l life i) (awaited_height_after s l life (suc i)) some (height_rises s l life i)

  abbrev b_is : (i : ℕ) → b i ≡ max (awaited_before s cuts l) (e i)
  b_is i = begun_is s reshares cuts l life i life_is

  pub begun_rises : (i : ℕ) → b i ≤ b (suc i)
  begun_rises i = so (b i) (b (suc i)) (awaited_before s cuts l) (e i) (e (suc i)) (b_is i) (b_is (suc i)) (epoch_rises i)
    where
      so : (a c m x y : ℕ) → a ≡ max m x → c ≡ max m y → x ≤ y → a ≤ c
      so a c m x y p q low = omega (arith, p, q, low)

  -- what is awaited is current
  pub is_current : (i : ℕ) → b i < e i + 2
  is_current i = so (b i) (awaited_before s cuts l) (e 0) (e i) (b_is i) never_back (from_first s l life some i)
    where
      so : (a m x y : ℕ) → a ≡ max m y → m ≤ x + 1 → x ≤ y → a < y + 2
      so a m x y p q low = omega (arith, p, q, low)

  -- an epoch that is awaited has begun
  pub awaited_begun : (i : ℕ) → e i ≤ b i
  awaited_begun i = so (b i) (awaited_before s cuts l) (e i) (b_is i)
    where
      so : (a m x : ℕ) → a ≡ max m x → x ≤ a
      so a m x p = omega (arith, p)

  -- an event that delivers nothing leaves both
  pub mail_epoch : (i : ℕ) (its : Event) → slice_get life.events i ≡ Some its → IsReached life.cut (suc i) → delivered_number its ≡ None → e (suc i) ≡ e i
  mail_epoch i its is reached none = ap (epoch_of n) (event_behind s l life i its is reached none)

  pub mail_begun : (i : ℕ) (its : Event) → slice_get life.events i ≡ Some its → IsReached life.cut (suc i) → delivered_number its ≡ None → b (suc i) ≡ b i
  mail_begun i its is reached none = b_is (suc i) ∙ ap (λ (x : ℕ). max (awaited_before s cuts l) x) (mail_epoch i its is reached none) ∙ sym (b_is i)

  -- A BLOCK

  module _ (i number : ℕ) (its : made.Block directory.Unit) (has : HasHeight s number its) (is : slice_get life.events i ≡ Some (Final number)) (reached : IsReached life.cut (suc i)) where
    height_is : awaited_height_after s l life (suc i) ≡ max (awaited_height_after s l life i) (its.height + 1)
    height_is = block_behind s l life i number has.b is reached has.there ∙ ap (λ (h : ℕ). max (awaited_height_after s l life i) (h + 1)) (sym has.same)

    -- what it may prune is not current
    pub block_reach : epoch_of n (its.height + 1) - 1 ≤ b (suc i) - 1
    block_reach = so (epoch_of n (its.height + 1)) (e (suc i)) (b (suc i)) (epochs_rise n (its.height + 1) (awaited_height_after s l life (suc i)) some (high (awaited_height_after s l life (suc i)) (awaited_height_after s l life i) (its.height + 1) height_is))
        (awaited_begun (suc i))
      where
        high : (a x y : ℕ) → a ≡ max x y → y ≤ a
        high a x y p = omega (arith, p)

        so : (x y z : ℕ) → x ≤ y → y ≤ z → x - 1 ≤ z - 1
        so x y z p q = omega (arith, p, q)

    -- one of the epoch that was awaited leaves that current
    pub block_current : epoch_of n its.height ≡ e i → b (suc i) < e i + 2
    block_current here = so (b (suc i)) (awaited_before s cuts l) (e 0) (e i) (e (suc i)) (b_is (suc i)) never_back (from_first s l life some i) (next (awaited_height_after s l life i) (its.height + 1) (awaited_height_after s l life (suc i)) height_is refl
        (below (epoch_of n (its.height + 1)) (epoch_of n its.height) (e i) (next_epoch n its.height some) here))
      where
        so : (a m x y z : ℕ) → a ≡ max m z → m ≤ x + 1 → x ≤ y → z ≤ y + 1 → a < y + 2
        so a m x y z p q low high = omega (arith, p, q, low, high)

        more : (x y : ℕ) → x ≡ y → x ≤ y + 1
        more x y is = omega (arith, is)

        below : (x y z : ℕ) → x ≤ y + 1 → y ≡ z → x ≤ z + 1
        below x y z low is = omega (arith, low, is)

        next : (a h m : ℕ) → m ≡ max a h → epoch_of n a ≡ e i → epoch_of n h ≤ e i + 1 → epoch_of n m ≤ e i + 1
        next a h m is first second = elim (larger a h m is) [
          | inl same ↦ more (epoch_of n m) (e i) (ap (epoch_of n) same ∙ first)
          | inr same ↦ subst (λ (x : ℕ). epoch_of n x ≤ e i + 1) (sym same) second
        ]
