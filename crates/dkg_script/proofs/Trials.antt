-- What trials of the definitions share: how a transcript over empty devices is gone through, and what scripts of one block are.
use Rattle.std.proofs.Common.{◌≡◌, ℕ, zero, suc, ◌<◌, List, [], ◌∷◌, ◌++◌, Option, Some, None, refl, sym, ap, subst, inl}
use Rattle.std.specs.Prelude.{fold, slice_get, IfSome, option_and_then}
use Rattle.std.specs.FinMap.{get-empty}
use Rattle.std.specs.List.{AllByRecursion}
use Rattle.dkg_ceremony.specs.Rounds.{round_of}
use Rattle.dkg_ceremony.specs.Modes.{mode_at}
use Rattle.dkg_infos.specs.InfoCodes.{info_output_at, parts_at}
use Rattle.dkg_infos.specs.OutcomeCodes.{outcome_after}
use Rattle.dkg_types.specs.PayloadCodes.{payload_info_at, payload_after}
use Rattle.dkg_infos.specs.declared.entry.Entry.{Entry}
use Rattle.dkg_infos.specs.declared.entry.Entry.TheVariants.{Committed, Registered, Setup, Entered, Step}
use Rattle.dkg_infos.specs.declared.entry.Part.TheVariants.{Player}
use Rattle.dkg_infos.specs.declared.entry.Role.TheVariants.{Member}
use Rattle.dkg_ceremony.specs.declared.phase.Phase.TheVariants.{Early}
use Rattle.dkg_values.specs.Bytes.{byte_at}
use Rattle.dkg_values.specs.Codec.{many_at}
use Rattle.dkg_values.specs.Lists.{keys_at}
use Rattle.dkg_values.specs.Uint.{groups_at}
use Rattle.dkg_values.specs.declared.name.Name.TheVariants.{Plan}
use Rattle.dkg_journal.specs.Names.{name_cmp}
use Rattle.dkg_text.specs.declared.script.Cut.{Cut}
use Rattle.dkg_text.specs.declared.script.Event.{Event}
use Rattle.dkg_text.specs.declared.script.Life.{Life}
use Rattle.dkg_text.specs.declared.script.Script.{Script}
use Rattle.dkg_script.specs.Readings.{SyncMaterial, info_in, material_in}
use Rattle.dkg_script.specs.Setting.{Setting, CutAt, limits}
use Rattle.dkg_script.specs.Blocks.{round_at, used, handed_in}
use Rattle.dkg_script.specs.Position.{IsPlanHistory, IsLeft, cut_of}
use Rattle.dkg_script.specs.Progress.{Progress, read, progress, AtEachEntry}
use Rattle.dkg_script.specs.Promise.{InEachCase, IsAnswered, with_plans}
use Rattle.dkg_script.specs.Due.{IsDueNow, WroteAck}
use Rattle.dkg_script.specs.Kept.{IsSoundOpening}
use Rattle.dkg_script.proofs.EachEntry.{EachAfter, at_each}
use Rattle.dkg_script.proofs.Worked.{script_of, setting, genesis, life_of, start, starts, secrets_of, nothing_listed}
use Rattle.dkg_script.proofs.Rounds.{round}

-- what an opening of epoch 0 writes behind its Opened entry
abbrev pub opening : List Entry
opening = Committed 0 None ∷ Registered 0 Member ∷ Setup 0 Early Player ∷ Entered 0 ∷ Step 0 ∷ []

-- ENTRY BY ENTRY

pub from_start : (script : Script) (P : Progress → Entry → Type 0) (out : List Entry) → EachAfter (setting script) P start out → AtEachEntry (setting script) P out
from_start script P out each = at_each (setting script) P out (subst (λ p. EachAfter (setting script) P p out) (sym (starts script)) each)

pub progress_is : (script : Script) (out : List Entry) → progress (setting script) out ≡ fold (read (setting script)) start out
unfolding progress
progress_is script out = ap (λ p. fold (read (setting script)) p out) (starts script)

-- the first opening over empty devices
pub opens : (script : Script) → IsSoundOpening (setting script) start []
opens script = sym (nothing_listed (secrets_of []))

-- at the end of a step
abbrev pub IsAnsweredAt : Setting → Progress → Entry → Type 0
IsAnsweredAt s p (Step step) = InEachCase s p.cuts (λ case. IsDueNow case p) → WroteAck p.written
IsAnsweredAt s p _ = Unit {0}

pub all_answered : (script : Script) (out : List Entry) → EachAfter (setting script) (IsAnsweredAt (setting script)) start out
    → (before after : List Entry) (step : ℕ) → out ≡ before ++ Step step ∷ after → IsAnswered (setting script) before
all_answered script out each before after step e own due = from_start script (IsAnsweredAt (setting script)) out each before (Step step) after e due

-- THE PLAN OF AN EMPTY DISK

pub nothing_handed_in : (script : Script) → handed_in (setting script) ≡ None
nothing_handed_in script = ap (λ o. option_and_then (material_in (limits (setting script))) o) (get-empty name_cmp Plan)

at_most : (P : Life → Type 0) (lives : List Life) (l : ℕ) → AllByRecursion P lives → IfSome (slice_get lives l) P
at_most P [] l all = tt
at_most P (life ∷ lives) zero all = all.0
at_most P (life ∷ lives) (suc l) all = at_most P lives l all.1

-- lives that provide no material leave the plan empty
abbrev LeavesNone : Script → List (Option CutAt) → ℕ → Life → Type 0
LeavesNone script cuts l life = IsLeft (setting script) l life (cut_of cuts l) None

provides_none : (script : Script) (cuts : List (Option CutAt)) (l : ℕ) → script.config.oneshot ≡ None → (lives : List Life) → AllByRecursion (λ life. life.sync ≡ None) lives → AllByRecursion (LeavesNone script cuts l) lives
provides_none script cuts l reshares [] none = tt
provides_none script cuts l reshares (life ∷ lives) none = (inl (rw (reshares, none.0) refl), provides_none script cuts l reshares lives none.1)

pub no_plan : (script : Script) (cuts : List (Option CutAt)) → script.config.oneshot ≡ None → AllByRecursion (λ life. life.sync ≡ None) script.lives → IsPlanHistory (setting script) cuts
no_plan script cuts reshares none = record {
  first = sym (nothing_handed_in script);
  next = λ l below. at_most (LeavesNone script cuts l) script.lives l (provides_none script cuts l reshares script.lives none);
}

-- ROUNDS

-- a script whose one block has the info of epoch 0, whatever the plan held
pub round_zero_in : (n : ℕ) (some : 0 < n) (events : List Event) (cut : Option Cut) (lives : List Life) (plans : List (Option SyncMaterial))
    → round_at (with_plans (setting (script_of n some (genesis ∷ []) (life_of events cut ∷ lives))) plans) 0 ≡ Some (round 0)
unfolding round_at used info_in payload_after payload_info_at parts_at info_output_at outcome_after mode_at byte_at many_at keys_at groups_at round_of
round_zero_in n some events cut lives plans = refl

pub round_zero : (n : ℕ) (some : 0 < n) (events : List Event) (cut : Option Cut) (lives : List Life)
    → round_at (setting (script_of n some (genesis ∷ []) (life_of events cut ∷ lives))) 0 ≡ Some (round 0)
round_zero n some events cut lives = round_zero_in n some events cut lives []
