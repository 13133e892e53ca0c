-- What is delivered to a life up to a step, over many epochs: the height that is awaited rises with it, and the first block that is delivered says where a life without a position enters.
use Rattle.std.proofs.Common.{◌≡◌, ℕ, zero, suc, ◌*◌, ◌<◌, ◌≤◌, ◌==◌, ◌&&◌, List, [], ◌∷◌, ◌++◌, Option, Some, None, Bool, true, false, arith, refl, ap, ◌∙◌, take, filter_map, length}
use Rattle.std.specs.Prelude.{fold, max, slice_get}
use Rattle.std.specs.Option.{option_map_or}
use Rattle.std.proofs.lemmas.Bool.Decides.{nat_tests}
use Rattle.std.proofs.lemmas.Nat.{le-div}
use Rattle.std.proofs.lemmas.List.Elements.{filter_map-append}
use Rattle.dkg_ceremony.specs.Schedule.{epoch_of}
use Rattle.dkg_text.specs.declared.script.Event.{Event}
use Rattle.dkg_text.specs.declared.script.Event.TheVariants.{Final}
use Rattle.dkg_text.specs.declared.script.Life.{Life}
use Rattle.dkg_script.specs.Blocks.{ScriptBlock, numbered_block, delivered_number, events_come_to}
use Rattle.dkg_script.specs.Position.{awaited_epoch, awaited_height_after, delivered, enters_blind_at, first_height}
use Rattle.dkg_script.specs.Setting.{Setting, blocks_per_epoch}
use Rattle.dkg_core.proofs.Heights.{epoch_from}
use Rattle.dkg_lives.proofs.Awaiting.{IsReached, delivered_more}

none_there : {A : Type 0} (x : A) → ◌≡◌ {A = Option A} None (Some x) → ⊥
none_there x e = cc

same_there : {A : Type 0} (x y : A) → ◌≡◌ {A = Option A} (Some x) (Some y) → x ≡ y
same_there x y e = cc

-- EPOCHS of heights

-- a later height lies in no earlier epoch
pub epochs_rise : (n a b : ℕ) → 1 ≤ n → a ≤ b → epoch_of n a ≤ epoch_of n b
epochs_rise n a b some low = le-div (epoch_of n a) b n (omega (arith, some)) (below (epoch_of n a * n) a b (epoch_from n a) low)
  where
    below : (m a b : ℕ) → m ≤ a → a ≤ b → m ≤ b
    below m a b one two = omega (arith, one, two)

-- LISTS

-- the first n are the first i, and others
prefix : {A : Type 0} (xs : List A) (i n : ℕ) → i ≤ n → (rest : List A) × (take n xs ≡ take i xs ++ rest)
prefix {A} [] zero zero low = ([], refl)
prefix {A} [] zero (suc n) low = ([], refl)
prefix {A} [] (suc i) zero low = ([], refl)
prefix {A} [] (suc i) (suc n) low = ([], refl)
prefix {A} (x ∷ xs) zero n low = (take n (x ∷ xs), refl)
prefix {A} (x ∷ xs) (suc i) zero low = absurd (omega (arith, low))
prefix {A} (x ∷ xs) (suc i) (suc n) low = let more = prefix xs i n (omega (arith, low)) in (more.0, ap (λ (ys : List A). x ∷ ys) more.1)

below_length : {A : Type 0} (xs : List A) (i : ℕ) (x : A) → slice_get xs i ≡ Some x → suc i ≤ length xs
below_length [] i x is = absurd (none_there x is)
below_length (y ∷ xs) zero x is = omega arith
below_length (y ∷ xs) (suc i) x is = let more = below_length xs i x is in omega (arith, more)

first_stays : {A : Type 0} (xs ys : List A) (x : A) → slice_get xs 0 ≡ Some x → slice_get (xs ++ ys) 0 ≡ Some x
first_stays [] ys x is = absurd (none_there x is)
first_stays (y ∷ xs) ys x is = is

first_of : {A : Type 0} (xs : List A) (y : A) → (x : A) × (slice_get (xs ++ y ∷ []) 0 ≡ Some x)
first_of [] y = (y, refl)
first_of (x ∷ xs) y = (x, refl)

-- HEIGHTS of what is delivered

abbrev higher : ℕ → ScriptBlock → ℕ
higher height b = max height (suc b.height)

rises : (bs : List ScriptBlock) (height : ℕ) → height ≤ fold higher height bs
rises [] height = omega arith
rises (b ∷ bs) height = let more = rises bs (max height (suc b.height)) in below (fold higher (max height (suc b.height)) bs) height b.height more
  where
    below : (m h k : ℕ) → max h (suc k) ≤ m → h ≤ m
    below m h k more = omega (arith, more)

above_first : (bs : List ScriptBlock) (height : ℕ) (b : ScriptBlock) → slice_get bs 0 ≡ Some b → suc b.height ≤ fold higher height bs
above_first [] height b is = absurd (none_there b is)
above_first (x ∷ bs) height b is = let more = rises bs (max height (suc x.height)) in below (fold higher (max height (suc x.height)) bs) height x.height b.height (ap (λ (y : ScriptBlock). y.height) (same_there x b is)) more
  where
    below : (m h k q : ℕ) → k ≡ q → max h (suc k) ≤ m → suc q ≤ m
    below m h k q same more = omega (arith, same, more)

nothing_yet : (bs : List ScriptBlock) (height : ℕ) → fold higher height bs ≡ 0 → bs ≡ []
nothing_yet [] height none = refl
nothing_yet (b ∷ bs) height none = absurd (let more = above_first (b ∷ bs) height b refl in omega (arith, more, none))

module _ (s : Setting) (l : ℕ) (life : Life) where
  -- at first it awaits the height that it starts at
  pub starts : awaited_height_after s l life 0 ≡ first_height s l life
  unfolding awaited_height_after
  starts = by_events (events_come_to life.cut life.events)
    where
      by_events : (events : List Event) → fold higher (first_height s l life) (filter_map (numbered_block s) (filter_map delivered_number (take 0 events))) ≡ first_height s l life
      by_events [] = refl
      by_events (event ∷ rest) = refl

  pub from_start : (j : ℕ) → first_height s l life ≤ awaited_height_after s l life j
  unfolding awaited_height_after
  from_start j = rises (delivered s life j) (first_height s l life)

  pub from_first : 1 ≤ blocks_per_epoch s → (j : ℕ) → awaited_epoch s l life 0 ≤ awaited_epoch s l life j
  from_first some j = epochs_rise (blocks_per_epoch s) (awaited_height_after s l life 0) (awaited_height_after s l life j) some (rw starts (from_start j))

  -- where height 0 is awaited nothing was delivered
  none_delivered : (j : ℕ) → awaited_height_after s l life j ≡ 0 → delivered s life j ≡ []
  unfolding awaited_height_after
  none_delivered j none = nothing_yet (delivered s life j) (first_height s l life) none

  first_below : (j : ℕ) (b : ScriptBlock) → slice_get (delivered s life j) 0 ≡ Some b → suc b.height ≤ awaited_height_after s l life j
  unfolding awaited_height_after
  first_below j b is = above_first (delivered s life j) (first_height s l life) b is

  -- what is delivered first stays so
  first_delivered : (j : ℕ) (b : ScriptBlock) → j ≤ length life.events → slice_get (delivered s life j) 0 ≡ Some b → slice_get (delivered s life (length life.events)) 0 ≡ Some b
  first_delivered j b low is =
      let more = prefix (events_come_to life.cut life.events) j (length life.events) low in
      let parts = ap (λ (es : List Event). filter_map (numbered_block s) (filter_map delivered_number es)) more.1
      ∙ ap (λ (ns : List ℕ). filter_map (numbered_block s) ns) (filter_map-append delivered_number (take j (events_come_to life.cut life.events)) more.0)
      ∙ filter_map-append (numbered_block s) (filter_map delivered_number (take j (events_come_to life.cut life.events))) (filter_map delivered_number more.0) in
      ap (λ (bs : List ScriptBlock). slice_get bs 0) parts ∙ first_stays (delivered s life j) (filter_map (numbered_block s) (filter_map delivered_number more.0)) b is

-- A BLOCK that comes in a step

module _ (s : Setting) (l : ℕ) (life : Life) (some : 1 ≤ blocks_per_epoch s) (i number : ℕ) (b : ScriptBlock) (is : slice_get life.events i ≡ Some (Final number)) (reached : IsReached life.cut (suc i)) (there : numbered_block s number ≡ Some b) where
  abbrev n : ℕ
  n = blocks_per_epoch s

  with_it : delivered s life (suc i) ≡ delivered s life i ++ b ∷ []
  with_it = delivered_more s l life i (Final number) is reached ∙ ap (λ (o : Option ScriptBlock). delivered s life i ++ filter_map (λ (x : Option ScriptBlock). x) (o ∷ [])) there

  -- the first that comes to a life without a position says where it enters
  pub enters_here : awaited_height_after s l life i ≡ 0 → enters_blind_at s l life (epoch_of n b.height) ≡ true
  enters_here none = both (first_height s l life == 0) (slice_get (delivered s life (length life.events)) 0) (is_zero (first_height s l life) (zero_at (first_height s l life) (awaited_height_after s l life i) (from_start s l life i) none)) first
    where
      zero_at : (a h : ℕ) → a ≤ h → h ≡ 0 → a ≡ 0
      zero_at a h low none = omega (arith, low, none)

      is_zero : (a : ℕ) → a ≡ 0 → (a == 0) ≡ true
      is_zero a e = grind (arith, nat_tests)

      itself : (a : ℕ) → (a == a) ≡ true
      itself a = grind (arith, nat_tests)

      first : slice_get (delivered s life (length life.events)) 0 ≡ Some b
      first = first_delivered s l life (suc i) b (below_length life.events i (Final number) is)
          (ap (λ (bs : List ScriptBlock). slice_get bs 0) with_it ∙ ap (λ (bs : List ScriptBlock). slice_get (bs ++ b ∷ []) 0) (none_delivered s l life i none))

      both : (t : Bool) (o : Option ScriptBlock) → t ≡ true → o ≡ Some b → (t && option_map_or (λ x. epoch_of n x.height == epoch_of n b.height) o false) ≡ true
      both t o e f = rw (e, f) (itself (epoch_of n b.height))

  -- none enters in an epoch behind a block that is the highest up to then
  pub enters_not : (e : ℕ) → awaited_height_after s l life (suc i) ≡ suc b.height → epoch_of n b.height < e → enters_blind_at s l life e ≡ false
  enters_not e high later = by_start (first_height s l life == 0)
    where
      first : (f : ScriptBlock) × (slice_get (delivered s life (suc i)) 0 ≡ Some f)
      first = let its = first_of (delivered s life i) b in (its.0, ap (λ (bs : List ScriptBlock). slice_get bs 0) with_it ∙ its.1)

      no_higher : (k q h : ℕ) → suc k ≤ q → q ≡ suc h → k ≤ h
      no_higher k q h low at = omega (arith, low, at)

      earlier : (a c : ℕ) → a ≤ c → c < e → (a == e) ≡ false
      earlier a c low less = let apart : a < e = omega (arith, low, less) in grind (arith, nat_tests)

      other : (epoch_of n (first.0).height == e) ≡ false
      other = earlier (epoch_of n (first.0).height) (epoch_of n b.height)
          (epochs_rise n (first.0).height b.height some (no_higher (first.0).height (awaited_height_after s l life (suc i)) b.height (first_below s l life (suc i) first.0 first.1) high)) later

      by_start : (t : Bool) → (t && option_map_or (λ x. epoch_of n x.height == e) (slice_get (delivered s life (length life.events)) 0) false) ≡ false
      by_start false = refl
      by_start true = ap (λ (o : Option ScriptBlock). option_map_or (λ x. epoch_of n x.height == e) o false) (first_delivered s l life (suc i) first.0 (below_length life.events i (Final number) is) first.1) ∙ other

  -- nor is such an epoch the first
  pub first_not : (e : ℕ) → awaited_height_after s l life i ≤ b.height → epoch_of n b.height < e → (e == awaited_epoch s l life 0) ≡ false
  first_not e low later = apart (awaited_epoch s l life 0) (awaited_epoch s l life i) (epoch_of n b.height) (from_first s l life some i) (epochs_rise n (awaited_height_after s l life i) b.height some low) later
    where
      apart : (a c d : ℕ) → a ≤ c → c ≤ d → d < e → (e == a) ≡ false
      apart a c d one two less = let lower : a < e = omega (arith, one, two, less) in grind (arith, nat_tests)
