-- What is known of logs as a run goes on: no log so far bears an acknowledgement that this node never gave. An acknowledgement that was due was written where that holds.
use Rattle.std.proofs.Common.{◌≡◌, ℕ, List, [], ◌∷◌, ◌++◌, Option, Some, None, refl, sym, ◌∙◌, ap, subst, append_assoc, append-nil, IsTrue}
use Rattle.std.specs.Prelude.{fold, IfSome, IsSomeAnd}
use Rattle.std.specs.List.{AllByRecursion}
use Rattle.std.proofs.lemmas.List.Sums.{fold-append}
use Rattle.dkg_ceremony.specs.ValidLogs.{bears_ack_of}
use Rattle.dkg_ceremony.specs.declared.dealer_log.DealerLog.{DealerLog}
use Rattle.dkg_ceremony.specs.declared.round.RoundParts.{RoundParts as Round}
use Rattle.dkg_infos.specs.declared.entry.Entry.{Entry}
use Rattle.dkg_infos.specs.declared.entry.Entry.TheVariants as entry
use Rattle.dkg_infos.specs.declared.entry.Restored.{Restored}
use Rattle.dkg_script.specs.Blocks.{round_at}
use Rattle.dkg_script.specs.Due.{IsDueNow, WroteAck}
use Rattle.dkg_script.specs.Kept.{IsSound}
use Rattle.dkg_script.specs.OwnMarks.{IsKnownAt, IsOwnMarkKnown}
use Rattle.dkg_script.specs.Progress.{Progress, read, pair_of}
use Rattle.dkg_script.specs.Setting.{Setting, me}
use Rattle.dkg_script.proofs.EachEntry.{EachAfter}
use Rattle.dkg_lives.proofs.Currently.{IsGrown, IsKeptEntry, IsWithin}
use Rattle.dkg_along.proofs.KeptSteps.{Reaches}
use Rattle.dkg_lives.proofs.Recorded.{found_is}

-- A MARK that is known stays so

all_any : (xs : List Restored) → AllByRecursion (λ x. Unit {0}) xs
all_any [] = tt
all_any (x ∷ xs) = (tt, all_any xs)

module _ (s : Setting) (before now : List Restored) (grown : IsGrown before now) (epoch dealer : ℕ) (log : DealerLog) where
  still_there : (x : Restored) → pair_of before epoch dealer ≡ Some x → pair_of now epoch dealer ≡ Some x
  still_there x there =
      let its = found_is (λ x. Unit {0}) before epoch dealer x (all_any before) there in
      let first : pair_of before x.epoch x.dealer ≡ Some x
      = subst (λ (e : ℕ). pair_of before e x.dealer ≡ Some x) (sym its.1) (subst (λ (d : ℕ). pair_of before epoch d ≡ Some x) (sym its.2) there) in
      subst (λ (d : ℕ). pair_of now epoch d ≡ Some x) its.2 (subst (λ (e : ℕ). pair_of now e x.dealer ≡ Some x) its.1 (grown x first))

  pub still_known : IsOwnMarkKnown s before epoch dealer log → IsOwnMarkKnown s now epoch dealer log
  still_known known = by_round (round_at s epoch) known
    where
      P : List Restored → Round → Type 0
      P pairs round = IsTrue (bears_ack_of round dealer log (me s)) → IsSomeAnd (pair_of pairs epoch dealer) (λ pair. log.public ≡ pair.public)

      by_pair : (o : Option Restored) → pair_of before epoch dealer ≡ o → IsSomeAnd o (λ pair. log.public ≡ pair.public) → IsSomeAnd (pair_of now epoch dealer) (λ pair. log.public ≡ pair.public)
      by_pair None there is = absurd is
      by_pair (Some x) there is = subst (λ (o : Option Restored). IsSomeAnd o (λ pair. log.public ≡ pair.public)) (sym (still_there x there)) is

      by_round : (o : Option Round) → IfSome o (P before) → IfSome o (P now)
      by_round None known = tt
      by_round (Some round) known = λ bears. by_pair (pair_of before epoch dealer) refl (known bears)

-- WHAT IS KNOWN behind these entries, where this was known before them
abbrev pub marks_after : Setting → Type 0 → Progress → List Entry → Type 0
marks_after s marks p [] = marks
marks_after s marks p (one ∷ more) = marks_after s (marks × IsKnownAt s p one) (read s p one) more

-- Where a step ends, the acknowledgement that was due in it was written, if no log up to there bears one that this node never gave.
abbrev pub IsAnsweredStep : Setting → Type 0 → Progress → Entry → Type 0
IsAnsweredStep s marks p (entry.Step step) = marks → IsDueNow s p → WroteAck p.written
IsAnsweredStep s marks p _ = Unit {0}

abbrev pub IsMarkedEntry : Setting → Type 0 → Progress → Entry → Type 0
IsMarkedEntry s marks p one = IsSound s p one × IsAnsweredStep s marks p one

abbrev pub EachMarked : Setting → Type 0 → Progress → List Entry → Type 0
EachMarked s marks p [] = Unit {0}
EachMarked s marks p (one ∷ more) = IsMarkedEntry s marks p one × EachMarked s (marks × IsKnownAt s p one) (read s p one) more

-- no entry takes that away
pub marks_before : (s : Setting) (entries : List Entry) (marks : Type 0) (p : Progress) → marks_after s marks p entries → marks
marks_before s [] marks p known = known
marks_before s (one ∷ more) marks p known = (marks_before s more (marks × IsKnownAt s p one) (read s p one) known).0

marks_joined : (s : Setting) (xs ys : List Entry) (marks : Type 0) (p : Progress) → marks_after s marks p (xs ++ ys) ≡ marks_after s (marks_after s marks p xs) (fold (read s) p xs) ys
marks_joined s [] ys marks p = refl
marks_joined s (one ∷ more) ys marks p = marks_joined s more ys (marks × IsKnownAt s p one) (read s p one)

each_joined : (s : Setting) (xs ys : List Entry) (marks : Type 0) (p : Progress) → EachMarked s marks p xs → EachMarked s (marks_after s marks p xs) (fold (read s) p xs) ys → EachMarked s marks p (xs ++ ys)
each_joined s [] ys marks p each more = more
each_joined s (one ∷ xs) ys marks p each more = (each.0, each_joined s xs ys (marks × IsKnownAt s p one) (read s p one) each.1 more)

-- the entries of an opening, or of a step, answer nothing
within_answered : (s : Setting) (marks : Type 0) (p : Progress) (one : Entry) → IsWithin one → IsAnsweredStep s marks p one
within_answered s marks p (entry.Step step) within = absurd within
within_answered s marks p other within = tt

each_within : (s : Setting) (entries : List Entry) (marks : Type 0) (p : Progress) → EachAfter s (IsKeptEntry s) p entries → EachMarked s marks p entries
each_within s [] marks p each = tt
each_within s (one ∷ more) marks p each = (((each.0).0, within_answered s marks p one (each.0).1), each_within s more (marks × IsKnownAt s p one) (read s p one) each.1)

-- A RUN: what was added is kept, and then Q holds of what is known and of how far it has come.
pub record Comes (s : Setting) (marks : Type 0) (p : Progress) (old new : List Entry) (Q : Type 0 → Progress → Type 0) : Type 0 where
  pub added : List Entry
  pub out : new ≡ old ++ added
  pub each : EachMarked s marks p added
  pub to : Q (marks_after s marks p added) (fold (read s) p added)

pub comes_none : (s : Setting) (marks : Type 0) (p : Progress) (old new : List Entry) (Q : Type 0 → Progress → Type 0) → new ≡ old → Q marks p → Comes s marks p old new Q
comes_none s marks p old new Q same to = record { added = []; out = same ∙ sym (append-nil old); each = tt; to = to }

-- an entry, and what comes behind it
pub comes_first : (s : Setting) (marks : Type 0) (p : Progress) (old new : List Entry) (Q : Type 0 → Progress → Type 0) (one : Entry) → IsMarkedEntry s marks p one
    → Comes s (marks × IsKnownAt s p one) (read s p one) (old ++ one ∷ []) new Q → Comes s marks p old new Q
comes_first s marks p old new Q one kept b = record { added = one ∷ b.added; out = b.out ∙ append_assoc old (one ∷ []) b.added; each = (kept, b.each); to = b.to }

-- one run behind another
pub comes_then : (s : Setting) (marks : Type 0) (p : Progress) (old mid new : List Entry) (P Q : Type 0 → Progress → Type 0) (a : Comes s marks p old mid P)
    → ((added : List Entry) → mid ≡ old ++ added → P (marks_after s marks p added) (fold (read s) p added) → Comes s (marks_after s marks p added) (fold (read s) p added) mid new Q) → Comes s marks p old new Q
comes_then s marks p old mid new P Q a next = record {
  added = a.added ++ b.added;
  out = b.out ∙ ap (λ (xs : List Entry). xs ++ b.added) a.out ∙ append_assoc old a.added b.added;
  each = each_joined s a.added b.added marks p a.each b.each;
  to = subst (λ (known : Type 0). Q known (fold (read s) p (a.added ++ b.added))) (sym (marks_joined s a.added b.added marks p))
      (subst (λ (q : Progress). Q (marks_after s (marks_after s marks p a.added) (fold (read s) p a.added) b.added) q) (sym (fold-append (read s) p a.added b.added)) b.to);
}
  where
    b : Comes s (marks_after s marks p a.added) (fold (read s) p a.added) mid new Q
    b = next a.added a.out a.to

-- what an opening or a step adds, and what comes behind it
pub comes_behind : (s : Setting) (marks : Type 0) (p : Progress) (old mid new : List Entry) (P : Progress → Type 0) (Q : Type 0 → Progress → Type 0) → Reaches s p old mid P
    → ((q : Progress) (later : Type 0) → (later → marks) → P q → Comes s later q mid new Q) → Comes s marks p old new Q
comes_behind s marks p old mid new P Q a next =
    comes_then s marks p old mid new (λ later q. (later → marks) × P q) Q
    (record { added = a.added; out = a.out; each = each_within s a.added marks p a.each; to = (marks_before s a.added marks p, a.to) })
    (λ added out both. next (fold (read s) p added) (marks_after s marks p added) both.0 both.1)

pub comes_of : (s : Setting) (marks : Type 0) (p : Progress) (old new : List Entry) (P : Progress → Type 0) (Q : Type 0 → Progress → Type 0) → ((q : Progress) (later : Type 0) → (later → marks) → P q → Q later q)
    → Reaches s p old new P → Comes s marks p old new Q
comes_of s marks p old new P Q so a = comes_behind s marks p old new new P Q a (λ q later before its. comes_none s later q new new Q refl (so q later before its))

-- OF A WHOLE TRANSCRIPT

-- each of its entries is sound
pub each_sound : (s : Setting) (entries : List Entry) (marks : Type 0) (p : Progress) → EachMarked s marks p entries → EachAfter s (IsSound s) p entries
each_sound s [] marks p each = tt
each_sound s (one ∷ more) marks p each = ((each.0).0, each_sound s more (marks × IsKnownAt s p one) (read s p one) each.1)

-- .. and answered where what came before it is known
pub answered_at : (s : Setting) (before : List Entry) (one : Entry) (after : List Entry) (marks : Type 0) (p : Progress) → EachMarked s marks p (before ++ one ∷ after)
    → IsAnsweredStep s (marks_after s marks p before) (fold (read s) p before) one
answered_at s [] one after marks p each = (each.0).1
answered_at s (first ∷ before) one after marks p each = answered_at s before one after (marks × IsKnownAt s p first) (read s p first) each.1

pub marks_of : (s : Setting) (entries : List Entry) (marks : Type 0) (p : Progress) → marks → EachAfter s (IsKnownAt s) p entries → marks_after s marks p entries
marks_of s [] marks p known each = known
marks_of s (one ∷ more) marks p known each = marks_of s more (marks × IsKnownAt s p one) (read s p one) (known, each.0) each.1
