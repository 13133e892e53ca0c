-- What keeping the dealings means for a dealer: this node never acknowledges two of its dealings in one epoch, over all
-- lives and cuts.
use Rattle.std.proofs.Common.{ℕ, suc, List, [], ◌∷◌, ◌++◌, ◌≡◌, refl, sym, ◌∙◌, ap, subst, Option, Some, None, Bool, true, false, length, append_assoc}
use Rattle.std.specs.Prelude.{fold, IsSomeAnd, cond, is_some, unwrap_or}
use Rattle.std.proofs.lemmas.List.Folds.{find-append}
use Rattle.std.proofs.lemmas.List.Sums.{fold-append}
use Rattle.dkg_ceremony.specs.declared.round.RoundParts.{RoundParts as Round}
use Rattle.dkg_ceremony.specs.Acks.{ack_of}
use Rattle.dkg_journal.specs.Names.{Files}
use Rattle.dkg_infos.specs.declared.entry.Entry.{Entry}
use Rattle.dkg_infos.specs.declared.entry.Entry.TheVariants as entry
use Rattle.dkg_infos.specs.declared.entry.Restored.{Restored}
use Rattle.dkg_text.specs.declared.script.Life.{Life}
use Rattle.dkg_script.specs.Setting.{Setting, me, life_at}
use Rattle.dkg_script.specs.Blocks.{round_at}
use Rattle.dkg_script.specs.Progress.{Progress, read, at_start, progress, pair_of, with_restored, with_life_ended, is_last_step, IsValid}
use Rattle.dkg_script.specs.Laws.{AcknowledgesOnce, StandsFor}
use Rattle.dkg_script.specs.Kept.{IsSound, IsSoundAck}

-- what was recorded stays recorded
stays_with : (pairs : List Restored) (pair x : Restored) (epoch dealer : ℕ) → pair_of pairs epoch dealer ≡ Some x → pair_of (with_restored pairs pair) epoch dealer ≡ Some x
stays_with pairs pair x epoch dealer e = by_case (is_some (pair_of pairs pair.epoch pair.dealer))
  where
    by_case : (b : Bool) → pair_of (cond b pairs (pairs ++ pair ∷ [])) epoch dealer ≡ Some x
    by_case true = e
    by_case false = rw (find-append, e)

stays_with_all : (more pairs : List Restored) (x : Restored) (epoch dealer : ℕ) → pair_of pairs epoch dealer ≡ Some x
    → pair_of (fold with_restored pairs more) epoch dealer ≡ Some x
stays_with_all [] pairs x epoch dealer e = e
stays_with_all (pair ∷ more) pairs x epoch dealer e = stays_with_all more (with_restored pairs pair) x epoch dealer (stays_with pairs pair x epoch dealer e)

stays_after : (s : Setting) (p : Progress) (new : Entry) (x : Restored) (epoch dealer : ℕ)
    → pair_of p.recorded epoch dealer ≡ Some x → pair_of (read s p new).recorded epoch dealer ≡ Some x
stays_after s p (entry.Opened life restored) x epoch dealer e = stays_with_all restored p.recorded x epoch dealer e
stays_after s p (entry.Recorded e' d' public private) x epoch dealer e =
    stays_with p.recorded (record { epoch = e'; dealer = d'; public = public; private = private }) x epoch dealer e
stays_after s p (entry.Cut step call) x epoch dealer e = e
stays_after s p (entry.Step step) x epoch dealer e = by_case (is_last_step s p)
  where
    by_case : (b : Bool) → pair_of (cond b (with_life_ended p None) (record p { step = suc p.step; written = [] })).recorded epoch dealer ≡ Some x
    by_case true = e
    by_case false = e
stays_after s p other x epoch dealer e = e

pub stays_along : (s : Setting) (entries : List Entry) (p : Progress) (x : Restored) (epoch dealer : ℕ)
    → pair_of p.recorded epoch dealer ≡ Some x → pair_of (fold (read s) p entries).recorded epoch dealer ≡ Some x
stays_along s [] p x epoch dealer e = e
stays_along s (entry ∷ entries) p x epoch dealer e = stays_along s entries (read s p entry) x epoch dealer (stays_after s p entry x epoch dealer e)

stands_for : (s : Setting) (p : Progress) (epoch dealer : ℕ) (ack : List ℕ) (pair : Option Restored) (round : Option Round)
    → pair_of p.recorded epoch dealer ≡ pair → round_at s epoch ≡ round
    → IsSomeAnd pair (λ pair. IsValid s pair × IsSomeAnd round (λ round. ack ≡ ack_of (me s) round dealer pair.public))
    → StandsFor s p epoch dealer ack
stands_for s p epoch dealer ack None round e f h = absurd h
stands_for s p epoch dealer ack (Some pair) None e f h = absurd h.1
stands_for s p epoch dealer ack (Some pair) (Some round) e f h = record { pair = pair; round = round; recorded = e; round_is = f; ack_is = h.1 }

pub of_sound : (s : Setting) (p : Progress) (epoch dealer : ℕ) (ack : List ℕ) → IsSound s p (entry.Ack epoch dealer ack) → StandsFor s p epoch dealer ack
of_sound s p epoch dealer ack sound = by_case (life_at s (length p.cuts)) sound
  where
    by_case : (life : Option Life) → IsSomeAnd life (IsSoundAck s p epoch dealer ack) → StandsFor s p epoch dealer ack
    by_case None h = absurd h
    by_case (Some life) h = stands_for s p epoch dealer ack (pair_of p.recorded epoch dealer) (round_at s epoch) refl refl h.of_recorded

same_ack : (s : Setting) (dealer : ℕ) (o : Option Restored) (q : Option Round) (pair pair' : Restored) (round round' : Round)
    → o ≡ Some pair → o ≡ Some pair' → q ≡ Some round → q ≡ Some round'
    → ack_of (me s) round dealer pair.public ≡ ack_of (me s) round' dealer pair'.public
same_ack s dealer o q pair pair' round round' e e' f f' =
    ap (λ (r : Round). ack_of (me s) r dealer pair.public) (same_value round' round round' (sym f ∙ f'))
    ∙ ap (λ (x : Restored). ack_of (me s) round' dealer x.public) (same_value pair' pair pair' (sym e ∙ e'))
  where
    same_value : {X : Type 0} (d x y : X) → Some x ≡ Some y → x ≡ y
    same_value d x y e = ap (λ o. unwrap_or o d) e

pub one_ack : {D : Type 0} (image : D → Files → Type 0) → AcknowledgesOnce image
unfolding progress
one_ack image s out disk secrets kept before mid after epoch dealer one other e =
    let here : Entry = entry.Ack epoch dealer one
    in let there : Entry = entry.Ack epoch dealer other
    in let a : StandsFor s (progress s before) epoch dealer one
    = of_sound s (progress s before) epoch dealer one (kept.each before here (mid ++ there ∷ after) e)
    in let b : StandsFor s (progress s (before ++ here ∷ mid)) epoch dealer other
    = of_sound s (progress s (before ++ here ∷ mid)) epoch dealer other
    (kept.each (before ++ here ∷ mid) there after (e ∙ sym (append_assoc before (here ∷ mid) (there ∷ after))))
    in let still : pair_of (progress s (before ++ here ∷ mid)).recorded epoch dealer ≡ Some a.pair
    = subst (λ p. pair_of p.recorded epoch dealer ≡ Some a.pair) (sym (fold-append (read s) (at_start s) before (here ∷ mid)))
    (stays_along s (here ∷ mid) (progress s before) a.pair epoch dealer a.recorded)
    in a.ack_is
    ∙ same_ack s dealer (pair_of (progress s (before ++ here ∷ mid)).recorded epoch dealer) (round_at s epoch) a.pair b.pair a.round b.round
    still b.recorded a.round_is b.round_is
    ∙ sym b.ack_is
