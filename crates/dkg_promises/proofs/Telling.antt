-- A run over many epochs is ended only by faults that can be told, or by want of memory, whatever the devices tell.
use Rattle.std.proofs.Common.{◌≡◌, ◌≢◌, ◌⊎◌, inl, inr, ℕ, zero, suc, ◌+◌, ◌++◌, ◌<◌, ◌==◌, ◌&&◌, Bool, true, false, List, [], ◌∷◌, Option, Some, None, Result, Ok, Err, append_assoc, refl, sym, ◌∙◌, ap, subst, fold, arith, length}
use Rattle.std.specs.Prelude.{IfErr, IsSomeAnd, nat_lt, not, slice_get, if◌then◌else◌}
use Rattle.std.specs.FinMap.{empty}
use Rattle.std.specs.Str.{bytes_eq}
use Rattle.std.proofs.lemmas.Bool.Decides.{nat_tests}
use Rattle.dkg_journal.specs.Names.{Files}
use Rattle.dkg_secrets.specs.Secrets as store
use Rattle.dkg_types.specs.BlockCodes.{info_of}
use Rattle.dkg_types.specs.Blocks.{Block}
use Rattle.dkg_infos.specs.declared.directory.Unit as directory
use Rattle.dkg_infos.specs.declared.entry.Entry.{Entry}
use Rattle.dkg_infos.specs.declared.entry.Entry.TheVariants as entry
use Rattle.dkg_infos.specs.declared.fault.Fault.{Fault}
use Rattle.dkg_infos.specs.declared.fault.Fault.TheVariants as fault
use Rattle.dkg_infos.specs.declared.fault.LocalCause.TheVariants as local
use Rattle.dkg_infos.specs.declared.fault.ParticipantsCause.TheVariants as cause
use Rattle.dkg_infos.specs.declared.info.EpochInfo.{EpochInfo}
use Rattle.dkg_text.specs.declared.script.Event.{Event}
use Rattle.dkg_text.specs.declared.script.Event.TheVariants as event
use Rattle.dkg_text.specs.declared.script.Life.{Life}
use Rattle.dkg_text.specs.declared.script.Script.{Script}
use Rattle.dkg_ceremony.specs.Schedule.{epoch_of}
use Rattle.dkg_script.specs.Ends.{EndsInFault}
use Rattle.dkg_script.specs.Epochs.{alone}
use Rattle.dkg_script.specs.Position.{awaited_epoch}
use Rattle.dkg_script.specs.Progress.{Progress, at_start, read}
use Rattle.dkg_script.specs.Promise.{Adds}
use Rattle.dkg_script.specs.Setting.{setting_of}
use Rattle.dkg_store.specs.Acts.{Held}
use Rattle.dkg_core.specs.Seen.{Seen}
use Rattle.dkg_core.specs.Sources.{Tip}
use Rattle.dkg_lives.specs.Blamed.{IsAskedOwn, IsBlockCause, IsBlockOwn, IsFromOutside, IsInfoCause, IsLastCause, IsLastOwn, IsNextCause, IsOpeningCause, IsOwnCause, IsOwnDealing, IsProviderCause, IsWhy, IsWhyNow, OnBlock, OnCarried, first_epoch_in, is_beyond, is_first_taken, epoch_behind, opening_block, per_epoch, refusal_by, refusal_in, tip_in}
use Rattle.dkg_lives.specs.Causes.{HasDeviceCause}
use Rattle.dkg_script.specs.Ends.{EndsFaulted, EndsRun, HasRisen, IsToldFault}
use Rattle.dkg_lives.specs.Epochs.{IsChecked, IsLifeInForm}
use Rattle.dkg_lives.specs.Given.{blocks_in, lived}
use Rattle.dkg_lives.specs.Lives.{RunsSo, TellsEnd}
use Rattle.dkg_lives.specs.Ways.{ReadsSomething, Trace, by_entries}
use Rattle.dkg_promises.proofs.Blaming.{Judges, TellsWhy, all_judged}
use Rattle.dkg_along.proofs.Following.{RunEndsBy}
use Rattle.dkg_along.proofs.Ordered.{tells_fault}
use Rattle.dkg_along.proofs.Runs.{starts}
use Rattle.dkg_lives.proofs.Standing.{IsBetweenOf, Moves, TellsFault}

-- the fault is one that can be told, or want of memory
abbrev pub IsTellable : Fault → Type 0
IsTellable its = (its ≡ fault.NoMemory) ⊎ IsToldFault its

outside_tellable : (its : Fault) → IsFromOutside its → IsTellable its
outside_tellable fault.NoMemory is = inl refl
outside_tellable fault.Disk is = inr tt
outside_tellable fault.Secrets is = inr tt
outside_tellable (fault.Corrupt name place) is = inr tt
outside_tellable its is = absurd is

-- WHAT HOLDS OF WHAT IS THERE

on_there : {A R : Type 0} (P : A → Type 0) (o : Option A) → IsSomeAnd o P → ((x : A) → P x → R) → R
on_there P None none leads = absurd none
on_there P (Some x) so leads = leads x so

on_carried : {R : Type 0} (P : EpochInfo directory.Unit → Type 0) (o : Option (Block directory.Unit)) → OnCarried o P → ((info : EpochInfo directory.Unit) → P info → R) → R
on_carried P o so leads = on_there (λ (b : Block directory.Unit). IsSomeAnd (info_of b.payload) P) o so (λ b its. on_there P (info_of b.payload) its leads)

on_block : {R : Type 0} (script : Script) (e : Event) (P : Block directory.Unit → Type 0) → OnBlock script e P → ((b : Block directory.Unit) → P b → R) → R
on_block script (event.Final number) P so leads = on_there P (slice_get (blocks_in script) number) so leads
on_block script other P so leads = absurd so

-- EACH CAUSE can be told

info_tellable : (script : Script) (epoch : ℕ) (info : EpochInfo directory.Unit) (its : Fault) → IsInfoCause script epoch info its → IsToldFault its
info_tellable script epoch info (fault.WrongEpoch expected got) why = λ same. why.2 (sym why.1 ∙ same ∙ why.0)
info_tellable script epoch info (fault.InvalidParticipants (cause.Refused e)) why = tt
info_tellable script epoch info (fault.InvalidParticipants (cause.Round e)) why = tt
info_tellable script epoch info its why = absurd why

own_tellable : (script : Script) (epoch : ℕ) (info : EpochInfo directory.Unit) (its : Fault) → IsOwnCause script epoch info its → IsToldFault its
own_tellable script epoch info (fault.LocalState (local.ShareRefused number)) why = tt
own_tellable script epoch info (fault.LocalState (local.StoredDealing number dealer)) why = tt
own_tellable script epoch info its why = absurd why

none_some : {x : Fault} → ◌≡◌ {A = Option Fault} None (Some x) → ⊥
none_some e = cc

some_same : {x y : Fault} → Some x ≡ Some y → x ≡ y
some_same e = cc

one_of : (its : Fault) (u : Bool) (x : Fault) (o : Option Fault) → (u ≡ true → IsToldFault x) → (o ≡ Some its → IsToldFault its) → (if u then Some x else o) ≡ Some its → IsToldFault its
one_of its true x o here rest is = subst IsToldFault (some_same is) (here refl)
one_of its false x o here rest is = rest is

less : (n m : ℕ) → nat_lt n m ≡ true → n < m
less n m test = grind (arith, nat_tests)

refusal_tellable : (script : Script) (l : ℕ) (life : Life) (j : ℕ) (b : Block directory.Unit) (its : Fault) → refusal_in script l life j b ≡ Some its → IsToldFault its
refusal_tellable script l life j b its is = one_of its (is_beyond script b.height) fault.HeightRange (refusal_by script l life b (tip_in script life j)) (λ e. tt) (by_tip (tip_in script life j)) is
  where
    by_tip : (o : Option Tip) → refusal_by script l life b o ≡ Some its → IsToldFault its
    by_tip None is = by_window (is_first_taken script l life b) is
      where
        by_window : (t : Bool) → (if t then None else Some (fault.OutOfWindow b.height)) ≡ Some its → IsToldFault its
        by_window true e = absurd (none_some e)
        by_window false e = subst IsToldFault (some_same e) tt
    by_tip (Some t) is =
        one_of its ((b.height == t.height) && not (bytes_eq b.digest t.digest)) (fault.ConflictingBlock b.height)
        (if nat_lt (t.height + 1) b.height then Some (fault.SkippedHeight (t.height + 1) b.height) else if (b.height == t.height + 1) && not (bytes_eq b.parent t.digest) then Some (fault.DetachedBlock b.height) else None)
        (λ e. tt)
        (one_of its (nat_lt (t.height + 1) b.height) (fault.SkippedHeight (t.height + 1) b.height)
        (if (b.height == t.height + 1) && not (bytes_eq b.parent t.digest) then Some (fault.DetachedBlock b.height) else None) (λ e. less (t.height + 1) b.height e)
        (one_of its ((b.height == t.height + 1) && not (bytes_eq b.parent t.digest)) (fault.DetachedBlock b.height) None (λ e. tt) (λ e. absurd (none_some e)))) is

next_tellable : (script : Script) (b : Block directory.Unit) (its : Fault) → IsNextCause script b its → IsToldFault its
next_tellable script b (fault.MissingEpochInfo height) why = tt
next_tellable script b fault.HeightRange why = tt
next_tellable script b its why = on_carried (λ info. IsInfoCause script (epoch_behind script b) info its) (Some b) why (λ info so. info_tellable script (epoch_behind script b) info its so)

opening_tellable : (script : Script) (l : ℕ) (life : Life) (its : Fault) → IsOpeningCause script l life its → IsToldFault its
opening_tellable script l life fault.HeightRange why = tt
opening_tellable script l life (fault.MissingEpochInfo height) why = tt
opening_tellable script l life its why =
    on_carried (λ info. IsInfoCause script (first_epoch_in script l life) info its) (opening_block script l life) why (λ info so. info_tellable script (first_epoch_in script l life) info its so)

dealing_tellable : (script : Script) (l : ℕ) (life : Life) (j : ℕ) (its : Fault) → IsOwnDealing script l life j its → IsToldFault its
dealing_tellable script l life j (fault.LocalState (local.OwnDealing number kept dealt)) why = why.2
dealing_tellable script l life j its why = absurd why

provider_tellable : (script : Script) (epoch : ℕ) (its : Fault) → IsProviderCause script epoch its → IsToldFault its
provider_tellable script epoch (fault.InvalidParticipants cause.ProviderEmpty) why = tt
provider_tellable script epoch (fault.InvalidParticipants (cause.ProviderAbove count most)) why = why.2
provider_tellable script epoch its why = absurd why

asked_tellable : (script : Script) (life : Life) (j epoch : ℕ) (its : Fault) → IsAskedOwn script life j epoch its → IsToldFault its
asked_tellable script life j epoch (fault.LocalState (local.StoredDealing number dealer)) why = tt
asked_tellable script life j epoch its why = absurd why

last_tellable : (script : Script) (l : ℕ) (life : Life) (j : ℕ) (b : Block directory.Unit) (its : Fault) → IsLastCause script l life j b its → IsToldFault its
last_tellable script l life j b its (inl provider) = provider_tellable script (epoch_of (per_epoch script) b.height) its provider.1
last_tellable script l life j b its (inr next) = next_tellable script b its next

last_own_tellable : (script : Script) (l : ℕ) (life : Life) (j : ℕ) (b : Block directory.Unit) (its : Fault) → IsLastOwn script l life j b its → IsToldFault its
last_own_tellable script l life j b its (inl next) = on_carried (λ info. IsOwnCause script (epoch_behind script b) info its) (Some b) next (λ info so. own_tellable script (epoch_behind script b) info its so)
last_own_tellable script l life j b its (inr asked) = asked_tellable script life j (epoch_of (per_epoch script) b.height) its asked.1

block_tellable : (script : Script) (l : ℕ) (life : Life) (j : ℕ) (b : Block directory.Unit) (its : Fault) → IsBlockCause script l life j b its → IsToldFault its
block_tellable script l life j b its (inl refused) = refusal_tellable script l life j b its refused
block_tellable script l life j b its (inr last) = last_tellable script l life j b its last.1

block_own_tellable : (script : Script) (l : ℕ) (life : Life) (j : ℕ) (b : Block directory.Unit) (its : Fault) → IsBlockOwn script l life j b its → IsToldFault its
block_own_tellable script l life j b its (inl last) = last_own_tellable script l life j b its last.1
block_own_tellable script l life j b its (inr dealing) = dealing_tellable script l life j its dealing.1

pub why_tellable : (script : Script) (l : ℕ) (life : Life) (step : ℕ) (its : Fault) → IsWhy script l life step its → IsTellable its
why_tellable script l life step its (inl out) = outside_tellable its out
why_tellable script l life zero its (inr (inl (inl why))) = inr (opening_tellable script l life its why)
why_tellable script l life zero its (inr (inr (inl own))) =
    inr (on_carried (λ info. IsOwnCause script (first_epoch_in script l life) info its) (opening_block script l life) own (λ info so. own_tellable script (first_epoch_in script l life) info its so))
why_tellable script l life (suc j) its (inr (inl (inl why))) =
    inr (on_there (λ e. OnBlock script e (λ b. IsBlockCause script l life j b its)) (slice_get life.events j) why (λ e on. on_block script e (λ b. IsBlockCause script l life j b its) on (λ b so. block_tellable script l life j b its so)))
why_tellable script l life (suc j) its (inr (inr (inl own))) =
    inr (on_there (λ e. OnBlock script e (λ b. IsBlockOwn script l life j b its)) (slice_get life.events j) own (λ e on. on_block script e (λ b. IsBlockOwn script l life j b its) on (λ b so. block_own_tellable script l life j b its so)))
why_tellable script l life zero its (inr (inl (inr may))) = absurd may
why_tellable script l life (suc j) its (inr (inl (inr may))) = inr (provider_tellable script (awaited_epoch (alone script) l life j) its may.1)
why_tellable script l life zero its (inr (inr (inr asked))) = absurd asked
why_tellable script l life (suc j) its (inr (inr (inr asked))) = inr (asked_tellable script life (suc j) (awaited_epoch (alone script) l life j) its asked.1)

now_tellable : (script : Script) (p : Progress) (its : Fault) → IsWhyNow script p its → IsTellable its
now_tellable script p its (inl out) = outside_tellable its out
now_tellable script p its (inr so) = on_there (λ life. IsWhy script (length p.cuts) life p.step its) (slice_get script.lives (length p.cuts)) so (λ life why. why_tellable script (length p.cuts) life p.step its why)

-- THE CLAUSE of ends

has_risen : (its : Fault) (disk_rose secrets_rose : Type 0) → its ≢ fault.NoMemory → IsTellable its → HasDeviceCause its disk_rose secrets_rose → HasRisen its disk_rose secrets_rose
has_risen its disk_rose secrets_rose not (inl is) cause = absurd (not is)
has_risen fault.Disk disk_rose secrets_rose not (inr today) cause = cause
has_risen fault.Secrets disk_rose secrets_rose not (inr today) cause = cause
has_risen its disk_rose secrets_rose not (inr today) cause = today

ends_faulted : (its : Fault) (entries : List Entry) (disk_rose secrets_rose : Type 0) → its ≢ fault.NoMemory → EndsInFault entries its → HasRisen its disk_rose secrets_rose
    → EndsFaulted its entries disk_rose secrets_rose
ends_faulted fault.NoMemory entries disk_rose secrets_rose not ends cause = absurd (not refl)
ends_faulted its entries disk_rose secrets_rose not ends cause = (ends, cause)

module _ (script : Script) (checked : IsChecked script) (each_over : (l : ℕ) (life : Life) (seen : Held → Seen) (files : Files) → slice_get script.lives l ≡ Some life → ReadsSomething seen → IsLifeInForm (lived script l life seen files)) where
  pub run_ends : (first : Files → Type 0) (t new : Trace) (answered : Result (Unit {0}) Fault) (disk_rose secrets_rose : Type 0)
      → IfErr answered (λ its. HasDeviceCause its disk_rose secrets_rose) → RunsSo by_entries script first t answered new → Adds t.out new.out (λ added. EndsRun answered added disk_rose secrets_rose)
  run_ends first t new answered disk_rose secrets_rose causes run = by_result run.result (all_judged script checked each_over first t run.mid run.result run.lives) answered causes run.told
    where
      not_ok : (its : Fault) → TellsEnd by_entries (Err its) (Ok tt) run.mid new → ⊥
      not_ok its (inl wants) = let wrong : ◌≡◌ {A = Result (Unit {0}) Fault} (Ok tt) (Err fault.NoMemory) = wants.0 in cc
      not_ok its (inr told) = let wrong : ◌≡◌ {A = Result (Unit {0}) Fault} (Ok tt) (Err its) = told.0 in cc

      -- of the setting over no devices
      tellable : (its : Fault) → Moves (Judges script) (IsBetweenOf script 0) (TellsWhy script its) t.out run.mid.out → (files : Files) (held : store.Secrets) → IsTellable its
      tellable its moves files held =
          let s = setting_of script files held in
          now_tellable script (fold (read s) (at_start s) moves.added) its (moves.to s (at_start s) (starts script files held))

      faulted : (its answered : Fault) → Moves (Judges script) (IsBetweenOf script 0) (TellsWhy script its) t.out run.mid.out → HasDeviceCause answered disk_rose secrets_rose
          → TellsFault its answered run.mid.out new.out → Adds t.out new.out (λ added. EndsFaulted answered added disk_rose secrets_rose)
      faulted its answered moves cause (inl none) =
          (moves.added, none.1 ∙ moves.parts, subst (λ (x : Fault). EndsFaulted x moves.added disk_rose secrets_rose) (sym none.0) moves.no_fault)
      faulted its answered moves cause (inr told) = (
        moves.added ++ entry.Fault its ∷ [],
        told.2 ∙ ap (λ (xs : List Entry). xs ++ entry.Fault its ∷ []) moves.parts ∙ append_assoc t.out moves.added (entry.Fault its ∷ []),
        subst (λ (x : Fault). EndsFaulted x (moves.added ++ entry.Fault its ∷ []) disk_rose secrets_rose) (sym told.0)
            (ends_faulted its (moves.added ++ entry.Fault its ∷ []) disk_rose secrets_rose told.1 (record { before = moves.added; last = refl; only = moves.no_fault })
            (has_risen its disk_rose secrets_rose told.1 (tellable its moves empty (record { shares = empty; seeds = empty; privates = empty })) (subst (λ (x : Fault). HasDeviceCause x disk_rose secrets_rose) told.0 cause))),
      )

      by_result : (result : Result (Unit {0}) Fault) → Moves (Judges script) (IsBetweenOf script 0) (RunEndsBy (TellsWhy script) script result) t.out run.mid.out
          → (answered : Result (Unit {0}) Fault) → IfErr answered (λ its. HasDeviceCause its disk_rose secrets_rose) → TellsEnd by_entries result answered run.mid new
          → Adds t.out new.out (λ added. EndsRun answered added disk_rose secrets_rose)
      by_result (Ok done) moves answered causes told =
          (moves.added, ap (λ (x : Trace). x.out) told.1 ∙ moves.parts, subst (λ (r : Result (Unit {0}) Fault). EndsRun r moves.added disk_rose secrets_rose) (sym told.0) moves.no_fault)
      by_result (Err its) moves (Ok done) causes told = absurd (not_ok its told)
      by_result (Err its) moves (Err answered) causes told = faulted its answered moves causes (tells_fault its answered run.mid new told)
