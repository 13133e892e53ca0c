-- What keeping the dealings means, for a dealer and for this node, and for whoever writes a transcript entry by entry.
use Rattle.std.specs.Prelude.{ℕ, ◌+◌, ◌<◌, List, [], ◌∷◌, ◌++◌, ◌≡◌, Some, length}
use Rattle.dkg_ceremony.specs.declared.round.RoundParts.{RoundParts as Round}
use Rattle.dkg_ceremony.specs.Acks.{ack_of}
use Rattle.dkg_journal.specs.Names.{Files}
use Rattle.dkg_secrets.specs.Secrets.{Secrets}
use Rattle.dkg_infos.specs.declared.entry.Entry.{Entry}
use Rattle.dkg_infos.specs.declared.entry.Entry.TheVariants.{Ack}
use Rattle.dkg_infos.specs.declared.entry.Restored.{Restored}
use Rattle.dkg_script.specs.Setting.{Setting, me, recovered_from}
use Rattle.dkg_script.specs.Blocks.{round_at}
use Rattle.dkg_script.specs.Position.{begun}
use Rattle.dkg_script.specs.Progress.{Progress, progress, read, pair_of}
use Rattle.dkg_script.specs.Kept.{Kept, IsSound, IsDurable, Gives}
use Rattle.dkg_script.specs.Consistent.{MayEndSo}
use Rattle.dkg_script.specs.Order.{InOrder, IsInOrder}
use Rattle.dkg_script.specs.OwnMarks.{OwnMarks}

-- No dealer gets two different acknowledgements of one epoch, over all lives and cuts.
abbrev pub AcknowledgesOnce : {D : Type 0} → (D → Files → Type 0) → Type 0
AcknowledgesOnce {D} image =
    (s : Setting) (out : List Entry) (disk : D) (secrets : Secrets) → Kept s out (image disk) secrets
    → (before mid after : List Entry) (epoch dealer : ℕ) (one other : List ℕ)
    → out ≡ before ++ Ack epoch dealer one ∷ (mid ++ Ack epoch dealer other ∷ after)
    → one ≡ other

-- A run of t begins with what one of s left: an image that a crash then left of its disk, and its secrets. It is the same node's, and where both make a round of this
-- epoch, they make the same.
pub record GoesOn (s t : Setting) (image : Files → Type 0) (secrets : Secrets) (epoch : ℕ) : Type 0 where
  pub files : image t.files
  pub secrets_are : t.secrets ≡ secrets
  pub node : me t ≡ me s
  pub one_round : (one other : Round) → round_at s epoch ≡ Some one → round_at t epoch ≡ Some other → one ≡ other

-- .. nor over two runs, until an epoch two above has begun in the first.
abbrev pub AcknowledgesOnceAgain : {D : Type 0} → (D → Files → Type 0) → Type 0
AcknowledgesOnceAgain {D} image =
    (s t : Setting) (out next : List Entry) (disk disk_now : D) (secrets secrets_now : Secrets) → Kept s out (image disk) secrets → Kept t next (image disk_now) secrets_now
    → (epoch dealer : ℕ) → GoesOn s t (image disk) secrets epoch
    → begun s (progress s out).cuts (length (progress s out).cuts) (progress s out).step < epoch + 2
    → (before after first rest : List Entry) (one other : List ℕ)
    → out ≡ before ++ Ack epoch dealer one ∷ after → next ≡ first ++ Ack epoch dealer other ∷ rest
    → one ≡ other

-- the dealing that an acknowledgement stands for
pub record StandsFor (s : Setting) (p : Progress) (epoch dealer : ℕ) (ack : List ℕ) : Type 0 where
  pub pair : Restored
  pub round : Round
  pub recorded : pair_of p.recorded epoch dealer ≡ Some pair
  pub round_is : round_at s epoch ≡ Some round
  pub ack_is : ack ≡ ack_of (me s) round dealer pair.public

-- An acknowledged dealing is found again, both halves, whatever a crash now leaves, until an epoch two above has begun.
abbrev pub AcknowledgedSurvives : {D : Type 0} → (D → Files → Type 0) → Type 0
AcknowledgedSurvives {D} image =
    (s : Setting) (out : List Entry) (disk : D) (secrets : Secrets) → Kept s out (image disk) secrets
    → (before after : List Entry) (epoch dealer : ℕ) (ack : List ℕ)
    → out ≡ before ++ Ack epoch dealer ack ∷ after
    → begun s (progress s out).cuts (length (progress s out).cuts) (progress s out).step < epoch + 2
    → (c : Files) → image disk c
    → (a : StandsFor s (progress s before) epoch dealer ack) × Gives (recovered_from c secrets) a.pair

-- What is kept stays kept with one entry more that is sound, where the devices keep what is recorded then.
abbrev pub StaysKept : {D : Type 0} → (D → Files → Type 0) → Type 0
StaysKept {D} image =
    (s : Setting) (out : List Entry) (entry : Entry) (disk disk_now : D) (secrets secrets_now : Secrets)
    → Kept s out (image disk) secrets
    → IsSound s (progress s out) entry
    → IsDurable s (read s (progress s out) entry) (image disk_now) secrets_now
    → Kept s (out ++ entry ∷ []) (image disk_now) secrets_now

-- What is in order stays so with one entry more that stands in its place.
abbrev pub StaysInOrder : Type 0
StaysInOrder = (s : Setting) (out : List Entry) (entry : Entry) → InOrder s out → IsInOrder s (progress s out) entry → InOrder s (out ++ entry ∷ [])

-- Where a transcript's logs bear no acknowledgement that was never given, its first entries' logs bear none: so nothing is
-- presumed of what comes after a step.
abbrev pub OwnMarksStandBefore : Type 0
OwnMarksStandBefore = (s : Setting) (first more : List Entry) → OwnMarks s (first ++ more) → OwnMarks s first

-- The lives of a transcript in order ended as the script lets them: so what is presumed of a script is presumed of each of its
-- runs, and no run can bring it to be false.
abbrev pub EndsAsScripted : Type 0
EndsAsScripted = (s : Setting) (out : List Entry) → InOrder s out → MayEndSo s.script.lives (progress s out).cuts
