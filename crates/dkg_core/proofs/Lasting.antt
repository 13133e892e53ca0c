-- What a setup leaves of the recorded dealings, at every exit.
use Rattle.std.proofs.Common.{◌≡◌, ◌≤◌, ◌<◌, ◌⊎◌, inl, inr, ℕ, cond, Bool, true, false, nat_le, List, [], None, refl, sym, ◌∙◌, ap, arith}
use Rattle.std.specs.Prelude.{◌-◌}
use Rattle.std.specs.FinMap.{get, get-retain_keys}
use Rattle.dkg_journal.specs.Records.{SectionEntry, from_section}
use Rattle.dkg_ceremony.specs.Schedule.{epoch_of}
use Rattle.dkg_journal.specs.Operations as of_journal
use Rattle.dkg_journal.specs.Operations.{Bars, Opens, Appends, Prunes, PutsPlan, ClearsPlan, Journaled, InPart}
use Rattle.dkg_store.specs.Acts.{Held, Operation, OnDisk, Changes, Cause, World, does, Tears, IsDiskLeft, notes}
use Rattle.dkg_core.specs.Courses.{Deed}
use Rattle.dkg_store.specs.Pairs.{Pairs, recovered}
use Rattle.dkg_secrets.specs.Secrets.{Secrets, after, Tries}
use Rattle.dkg_secrets.specs.declared.secrets.SecretOp.{SecretOp}
use Rattle.dkg_secrets.specs.declared.secrets.SecretOp.TheVariants.{PutShare, PutSeed, PutDealing, Prune}
use Rattle.dkg_store.proofs.Halves.{recovered_at, share_halves, seed_halves, prune_halves}
use Rattle.dkg_secrets.proofs.Map.{below_or, exact_keys}
use Rattle.dkg_store.proofs.Pruned.{recovered_from}
use Rattle.dkg_secrets.proofs.Tried.{all_done}
use Rattle.dkg_core.specs.Fixed.{Fixed}
use Rattle.dkg_core.specs.Live.{awaited_height}
use Rattle.dkg_core.specs.Laws.{LawKeeps, prune_law, PrunesAtMost, OpeningOperation, opening_law}
use Rattle.dkg_core.specs.Setup.{setup}
use Rattle.dkg_core.specs.Heard.{recovered_in, KeepsFrom, SetupsKeep, OpeningsKeep}
use Rattle.dkg_core.specs.Core.{opening}
use Rattle.dkg_core.proofs.Opening.{openings_prune}
use Rattle.dkg_core.proofs.Holding.{along}
use Rattle.dkg_core.proofs.Pruning.{setups_prune}

-- the journal's prune
pub pruned_at : (min : ℕ) (es : List SectionEntry) (s : Secrets) (k : ℕ × ℕ) → min ≤ k.0 → get (recovered (from_section min es) s) k ≡ get (recovered es s) k
pruned_at min es s k above =
    ap (λ (m : Pairs). get m k) (recovered_from min es s)
    ∙ get-retain_keys (recovered es s) (λ (x : ℕ × ℕ). nat_le min x.0) k (λ x tied. ap (λ (y : ℕ × ℕ). nat_le min y.0) (sym (exact_keys k x tied)))
    ∙ ap (λ (b : Bool). cond b (get (recovered es s) k) None) (is_above (below_or min k.0))
  where
    is_above : ((k.0 < min) × (nat_le min k.0 ≡ false)) ⊎ ((min ≤ k.0) × (nat_le min k.0 ≡ true)) → nat_le min k.0 ≡ true
    is_above (inl below) = absurd (let lt = below.0 in omega arith)
    is_above (inr here) = here.1

-- a change of the secrets that was tried
secrets_at : {Dir : Type 0} (most : ℕ) (op : SecretOp) (past : List (Deed Dir)) (es : List SectionEntry) (s t : Secrets) (k : ℕ × ℕ) → PrunesAtMost most past (Changes op) → Tries op s t → most ≤ k.0
    → get (recovered es t) k ≡ get (recovered es s) k
secrets_at most (PutShare epoch share) past es s t k law tries above = recovered_at s t k es (ap (λ (m : _). get m k) (share_halves epoch share s t tries))
secrets_at most (PutSeed epoch seed) past es s t k law tries above = recovered_at s t k es (ap (λ (m : _). get m k) (seed_halves epoch seed s t tries))
secrets_at most (PutDealing epoch dealer private) past es s t k law tries above = absurd law
secrets_at most (Prune min) past es s t k law tries above = recovered_at s t k es (prune_halves min s t k tries (omega arith))

-- A prune that was ended within has come up to this minimum, or to one below it; or it had not begun.
pruned_part : (most min : ℕ) (s : Secrets) (j new : Journaled) (k : ℕ × ℕ) → min ≤ most → IsDiskLeft (Prunes min) j new → most ≤ k.0 → get (recovered new.entries s) k ≡ get (recovered j.entries s) k
pruned_part most min s j new k low (inl is) above = ap (λ (x : Journaled). get (recovered x.entries s) k) is
pruned_part most min s j new k low (inr (inl is)) above = ap (λ (x : Journaled). get (recovered x.entries s) k) is ∙ pruned_at min j.entries s k (omega arith)
pruned_part most min s j new k low (inr (inr part)) above =
    let least : part.0 ≤ min = part.1 in
    ap (λ (x : Journaled). get (recovered x.entries s) k) part.2 ∙ pruned_at part.0 j.entries s k (omega arith)

-- what is recovered, by entries and secrets
by_both : (h k : Held) (key : ℕ × ℕ) → k.secrets ≡ h.secrets → get (recovered (notes k) h.secrets) key ≡ get (recovered (notes h) h.secrets) key → get (recovered_in k) key ≡ get (recovered_in h) key
by_both h k key same is = ap (λ (s : Secrets). get (recovered (notes k) s) key) same ∙ is

-- an opening changes no entry, wherever it ends
opened_part : (op : of_journal.JournalOperation) (s : Secrets) (j new : Journaled) (k : ℕ × ℕ) → (of_journal.after_operation op j).entries ≡ j.entries → (InPart op j new → new.entries ≡ j.entries) → IsDiskLeft op j new
    → get (recovered new.entries s) k ≡ get (recovered j.entries s) k
opened_part op s j new k kept part (inl is) = ap (λ (x : Journaled). get (recovered x.entries s) k) is
opened_part op s j new k kept part (inr (inl is)) = ap (λ (x : Journaled). get (recovered x.entries s) k) is ∙ ap (λ (es : List SectionEntry). get (recovered es s) k) kept
opened_part op s j new k kept part (inr (inr is)) = ap (λ (es : List SectionEntry). get (recovered es s) k) (part is)

module _ {Dir : Type 0} where
  -- an operation that is done
  done_at : (most : ℕ) (op : Operation) (past : List (Deed Dir)) (w : World) (k : ℕ × ℕ) → PrunesAtMost most past op → most ≤ k.0 → get (recovered_in (does w op).held) k ≡ get (recovered_in w.held) k
  done_at most (OnDisk Bars) past w k law above = absurd law
  done_at most (OnDisk (Opens calls)) past w k law above = absurd law
  done_at most (OnDisk (Appends e)) past w k law above = absurd law
  done_at most (OnDisk (Prunes min)) past w k law above = pruned_at min (notes w.held) w.held.secrets k (omega arith)
  done_at most (OnDisk (PutsPlan bytes)) past w k law above = absurd law
  done_at most (OnDisk ClearsPlan) past w k law above = absurd law
  done_at most (Changes op) past w k law above =
      secrets_at most op past (notes w.held) w.held.secrets (after op w.held.secrets) k law (all_done op w.held.secrets (after op w.held.secrets) refl) above

  -- .. or torn
  torn_at : (most : ℕ) (op : Operation) (past : List (Deed Dir)) (cause : Cause) (w new : World) (k : ℕ × ℕ) → PrunesAtMost most past op → Tears cause op w new → most ≤ k.0
      → get (recovered_in new.held) k ≡ get (recovered_in w.held) k
  torn_at most (OnDisk Bars) past cause w new k law tears above = absurd law
  torn_at most (OnDisk (Opens calls)) past cause w new k law tears above = absurd law
  torn_at most (OnDisk (Appends e)) past cause w new k law tears above = absurd law
  torn_at most (OnDisk (Prunes min)) past cause w new k law tears above =
      by_both w.held new.held k tears.torn.0 (pruned_part most min w.held.secrets w.held.journaled new.held.journaled k law tears.torn.1 above)
  torn_at most (OnDisk (PutsPlan bytes)) past cause w new k law tears above = absurd law
  torn_at most (OnDisk ClearsPlan) past cause w new k law tears above = absurd law
  torn_at most (Changes op) past cause w new k law tears above =
      ap (λ (j : Journaled). get (recovered j.entries new.held.secrets) k) tears.torn.0
      ∙ secrets_at most op past (notes w.held) w.held.secrets new.held.secrets k law tears.torn.1 above

  opening_done : (most : ℕ) (op : Operation) (past : List (Deed Dir)) (w : World) (k : ℕ × ℕ) → OpeningOperation most past op → most ≤ k.0 → get (recovered_in (does w op).held) k ≡ get (recovered_in w.held) k
  opening_done most (OnDisk Bars) past w k law above = refl
  opening_done most (OnDisk (Opens calls)) past w k law above = refl
  opening_done most (OnDisk (PutsPlan bytes)) past w k law above = refl
  opening_done most (OnDisk ClearsPlan) past w k law above = refl
  opening_done most (OnDisk (Appends e)) past w k law above = absurd law
  opening_done most (OnDisk (Prunes min)) past w k law above = done_at most (OnDisk (Prunes min)) past w k law above
  opening_done most (Changes op) past w k law above = done_at most (Changes op) past w k law above

  opening_torn : (most : ℕ) (op : Operation) (past : List (Deed Dir)) (cause : Cause) (w new : World) (k : ℕ × ℕ) → OpeningOperation most past op → Tears cause op w new → most ≤ k.0
      → get (recovered_in new.held) k ≡ get (recovered_in w.held) k
  opening_torn most (OnDisk Bars) past cause w new k law tears above =
      by_both w.held new.held k tears.torn.0 (opened_part Bars w.held.secrets w.held.journaled new.held.journaled k refl (λ part. absurd part) tears.torn.1)
  opening_torn most (OnDisk (Opens calls)) past cause w new k law tears above =
      by_both w.held new.held k tears.torn.0 (opened_part (Opens calls) w.held.secrets w.held.journaled new.held.journaled k refl (λ part. part.0) tears.torn.1)
  opening_torn most (OnDisk (PutsPlan bytes)) past cause w new k law tears above =
      by_both w.held new.held k tears.torn.0 (opened_part (PutsPlan bytes) w.held.secrets w.held.journaled new.held.journaled k refl (λ part. absurd part) tears.torn.1)
  opening_torn most (OnDisk ClearsPlan) past cause w new k law tears above =
      by_both w.held new.held k tears.torn.0 (opened_part ClearsPlan w.held.secrets w.held.journaled new.held.journaled k refl (λ part. absurd part) tears.torn.1)
  opening_torn most (OnDisk (Appends e)) past cause w new k law tears above = absurd law
  opening_torn most (OnDisk (Prunes min)) past cause w new k law tears above = torn_at most (OnDisk (Prunes min)) past cause w new k law tears above
  opening_torn most (Changes op) past cause w new k law tears above = torn_at most (Changes op) past cause w new k law tears above

  keeps : (epoch : ℕ) (h : Held) → LawKeeps (prune_law {Dir = Dir} epoch) (KeepsFrom (epoch - 1) h)
  keeps epoch h = record {
    said = λ past w line law kept. kept;
    done = λ past w op law kept key above. done_at (epoch - 1) op past w key law above ∙ kept key above;
    torn = λ past cause w new op law kept tears key above. torn_at (epoch - 1) op past cause w new key law tears above ∙ kept key above;
  }

  opening_keeps : (c : Fixed Dir) (most : ℕ) (h : Held) → LawKeeps (opening_law c most) (KeepsFrom most h)
  opening_keeps c most h = record {
    said = λ past w line law kept. kept;
    done = λ past w op law kept key above. opening_done most op past w key law above ∙ kept key above;
    torn = λ past cause w new op law kept tears key above. opening_torn most op past cause w new key law tears above ∙ kept key above;
  }

pub openings_keep : {Dir : Type 0} → OpeningsKeep Dir
openings_keep {Dir} c most w starts =
    along (opening_law c most) (KeepsFrom most w.held) (opening_keeps c most w.held) [] (opening c) w (openings_prune c most starts) (λ key above. refl)

pub setups_keep : {Dir : Type 0} → SetupsKeep Dir
setups_keep {Dir} c material st w =
    let epoch = epoch_of c.blocks_per_epoch (awaited_height st) in
    along (prune_law epoch) (KeepsFrom (epoch - 1) w.held) (keeps epoch w.held) [] (setup c material st) w (setups_prune c material st []) (λ key above. refl)
