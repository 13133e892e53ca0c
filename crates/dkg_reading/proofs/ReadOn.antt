-- Loops that read on: what was read so far, and what the rest of the text spells.
use Rattle.std.proofs.Common.{◌≡◌, ℕ, zero, suc, ◌<◌, Bool, true, false, List, [], ◌∷◌, ◌++◌, length, Ok, Err, Option, Some, None, refl, sym, ap, subst, ◌∙◌, append_assoc, append-nil, arith}
use Rattle.std.specs.Prelude.{IfSome}
use Rattle.dkg_reading.specs.declared.stop.Stop.{Stop}
use Rattle.dkg_reading.specs.declared.stop.Stop.TheVariants.{Line, NoMemory}
use Rattle.dkg_reading.specs.Lines.{FailsText, TextReading, ReadsIf, many_from}
use Rattle.dkg_reading.specs.Rows.{all_of, ◌>>=◌}
use Rattle.dkg_reading.proofs.Guards.{some_is}

-- what is left to read, and so many lines at most
pub record IsLeft {A : Type 0} (goes_on : List ℕ → Bool) (read : List A → List ℕ → TextReading A) (done : List A) (text : List ℕ) (all : TextReading (List A)) : Type 0 where
  pub most : ℕ
  pub fits : length text < most
  pub spells : many_from goes_on read most done text ≡ all

module _ {A : Type 0} (goes_on : List ℕ → Bool) (read : List A → List ℕ → TextReading A) where
  from_more : (most : ℕ) (done : List A) (text rest : List ℕ) (x : A) (all : TextReading (List A)) → goes_on text ≡ true → read done text ≡ Ok (x, rest) → length rest < length text → length text < most
      → many_from goes_on read most done text ≡ all → IsLeft goes_on read (done ++ x ∷ []) rest all
  unfolding many_from
  from_more zero done text rest x all on is shorter fits so_far = absurd (omega (arith, fits))
  from_more (suc most) done text rest x all on is shorter fits so_far =
      let step : many_from goes_on read (suc most) done text ≡ many_from goes_on read most (done ++ x ∷ []) rest = rw (on, is) refl in
      record { most = most; fits = omega (arith, fits, shorter); spells = sym step ∙ so_far }

  -- one thing more
  pub more : (done : List A) (text rest : List ℕ) (x : A) (all : TextReading (List A)) → IsLeft goes_on read done text all → goes_on text ≡ true → read done text ≡ Ok (x, rest) → length rest < length text → IsLeft goes_on read (done ++ x ∷ []) rest all
  more done text rest x all left on is shorter = from_more left.most done text rest x all on is shorter left.fits left.spells

  from_end : (most : ℕ) (done : List A) (text : List ℕ) → goes_on text ≡ false → many_from goes_on read most done text ≡ Ok (done, text)
  unfolding many_from
  from_end zero done text over = refl
  from_end (suc most) done text over = rw over refl

  -- no thing more
  pub ends : (done : List A) (text : List ℕ) (all : TextReading (List A)) → IsLeft goes_on read done text all → goes_on text ≡ false → all ≡ Ok (done, text)
  ends done text all left over = sym left.spells ∙ from_end left.most done text over

  from_refused : (most : ℕ) (done : List A) (text : List ℕ) (left : ℕ) → goes_on text ≡ true → read done text ≡ Err left → length text < most → many_from goes_on read most done text ≡ Err left
  unfolding many_from
  from_refused zero done text left on is fits = absurd (omega (arith, fits))
  from_refused (suc most) done text left on is fits = rw (on, is) refl

  -- a thing was refused
  pub refused : (done : List A) (text : List ℕ) (all : TextReading (List A)) (stop : Stop) → IsLeft goes_on read done text all → goes_on text ≡ true → FailsText stop (read done text) → FailsText stop all
  refused done text all (Line n) left on fails = sym left.spells ∙ from_refused left.most done text n on fails left.fits
  refused done text all NoMemory left on fails = tt

  -- the same, by what a call answered that reads no more than a text that goes on so
  pub more_if : (done : List A) (text rest : List ℕ) (o : Option A) (x : A) (all : TextReading (List A)) → IsLeft goes_on read done text all → o ≡ Some x → ReadsIf goes_on (read done) text (Ok o) rest
      → IfSome o (λ _. length rest < length text) → IsLeft goes_on read (done ++ x ∷ []) rest all
  more_if done text rest (Some y) x all left is reads shorter =
      let same : y ≡ x = some_is y x is in
      subst (λ (z : A). IsLeft goes_on read (done ++ z ∷ []) rest all) same (more done text rest y all left reads.0 reads.1 shorter)
  more_if done text rest None x all left is reads shorter = absurd cc

  pub ends_if : (done : List A) (text rest : List ℕ) (o : Option A) (all : TextReading (List A)) → IsLeft goes_on read done text all → o ≡ None → ReadsIf goes_on (read done) text (Ok o) rest → all ≡ Ok (done, rest)
  ends_if done text rest (Some y) all left is reads = absurd cc
  ends_if done text rest None all left is reads = ends done text all left reads.0 ∙ ap (λ (t : List ℕ). let r : TextReading (List A) = Ok (done, t) in r) (sym reads.1)

  pub refused_if : (done : List A) (text rest : List ℕ) (all : TextReading (List A)) (stop : Stop) → IsLeft goes_on read done text all → ReadsIf goes_on (read done) text (Err stop) rest → FailsText stop all
  refused_if done text rest all stop left reads = refused done text all stop left reads.0 reads.1

  -- all is left at the beginning
  pub begin : (text : List ℕ) → IsLeft goes_on read [] text (many_from goes_on read (suc (length text)) [] text)
  begin text = record { most = suc (length text); fits = omega arith; spells = refl }

-- nothing was read, so all is left
pub kept_if : {A : Type 0} (goes_on : List ℕ → Bool) (read : List ℕ → TextReading A) (text left : List ℕ) (o : Option A) → o ≡ None → ReadsIf goes_on read text (Ok o) left → left ≡ text
kept_if goes_on read text left (Some x) is reads = absurd cc
kept_if goes_on read text left None is reads = reads.1

-- FIELDS, by the same steps

-- what was read, and then what the fields spell
abbrev pub before_more : {A : Type 0} → List A → Option (List A) → Option (List A)
before_more done reading = reading >>= λ more. Some (done ++ more)

pub one_more : {A : Type 0} (of : List ℕ → Option A) (done : List A) (text : List ℕ) (fields : List (List ℕ)) (x : A) → of text ≡ Some x → before_more done (all_of of (text ∷ fields)) ≡ before_more (done ++ x ∷ []) (all_of of fields)
unfolding all_of
one_more {A} of done text fields x is = rw is (by_case (all_of of fields))
  where
    by_case : (o : Option (List A)) → before_more done (o >>= λ xs. Some (x ∷ xs)) ≡ before_more (done ++ x ∷ []) o
    by_case None = refl
    by_case (Some xs) = ap Some (sym (append_assoc done (x ∷ []) xs))

pub none_more : {A : Type 0} (of : List ℕ → Option A) (done : List A) (text : List ℕ) (fields : List (List ℕ)) → of text ≡ None → before_more done (all_of of (text ∷ fields)) ≡ None
unfolding all_of
none_more of done text fields is = rw is refl

pub no_more : {A : Type 0} (of : List ℕ → Option A) (done : List A) → before_more done (all_of of []) ≡ Some done
unfolding all_of
no_more of done = ap Some (append-nil done)
