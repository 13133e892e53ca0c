-- A step that passes no epoch on keeps the shares.
use Rattle.std.proofs.Common.{◌≡◌, ℕ, Option, Some, None, refl, sym, ◌∙◌, ap, subst}
use Rattle.std.specs.Prelude.{if◌then◌else◌, is_some, option_and_then}
use Rattle.std.specs.FinMap.{get}
use Rattle.dkg_ceremony.specs.declared.round.RoundParts.{RoundParts as Round}
use Rattle.dkg_ceremony.specs.declared.signed_log.SignedDealerLog.{SignedDealerLog}
use Rattle.dkg_types.specs.Blocks.{Block}
use Rattle.dkg_types.specs.PayloadCodes.{its_log}
use Rattle.dkg_secrets.specs.Secrets.{Secrets}
use Rattle.dkg_store.specs.Acts.{Held, World}
use Rattle.dkg_store.proofs.Acts.{along_runs}
use Rattle.dkg_core.specs.Courses.{Goes, bind, on_devices, Throughout}
use Rattle.dkg_core.specs.Fixed.{Fixed}
use Rattle.dkg_core.specs.Live.{Live, Stage, Deals, Includes, Follows, Ends, Mailed, Finalized, is_last_height, recorded_at, with_tip}
use Rattle.dkg_core.specs.Logs.{is_accepted, carried_log_event}
use Rattle.dkg_core.specs.Dealing as d
use Rattle.dkg_core.specs.Including as i
use Rattle.dkg_core.specs.Blocks as b
use Rattle.dkg_core.specs.Core.{step}
use Rattle.dkg_core.specs.Storing.{KeepsShares}
use Rattle.dkg_core.specs.Through.{PassesNothingOn}
use Rattle.dkg_laws.specs.SharesMoved.{NodeStepsSpareShares}
use Rattle.dkg_core.proofs.Applied.{judged_is}
use Rattle.dkg_core.proofs.Behind.{steps_run_behind}
use Rattle.dkg_core.proofs.Storing.{node_steps_keep_secrets}
use Rattle.dkg_core.proofs.Upkeep.{along_if, along_option}
use Rattle.dkg_core.proofs.Walking as walk

-- A BLOCK BELOW THE LAST, while including, leaves the secrets

module _ {Dir : Type 0} (c : Fixed Dir) (st : Live Dir) (block : Block Dir) (secrets : Secrets) where
  abbrev P : World → Type 0
  P w = w.held.secrets ≡ secrets

  records_log : (epoch : ℕ) (log : SignedDealerLog) (w : World) → P w → Throughout {Dir = Dir} P (b.records_log epoch block.height log st) w
  records_log epoch log w q =
      along_if P w (is_some (recorded_at st.records.logs epoch log.dealer)) (Goes st)
      (d.appends epoch (carried_log_event log.dealer block.height log.log) (Goes (b.with_log_at epoch log.dealer block.height log.log st))) (λ e. q) (λ e. (λ cause new tears. tears.torn.0 ∙ q, q))

  observes : (round : Round) (log : Option SignedDealerLog) (w : World) → P w → Throughout P (b.observes c round block st log) w
  observes round None w q = q
  observes round (Some log) w q =
      along_if P w (is_accepted c round log) (bind (b.records_log round.number block.height log st) (λ now. Goes (b.without_own_log c log.dealer now))) (Goes st)
      (λ e. walk.then_next c P (λ w line aside q. q) (b.records_log round.number block.height log st) (λ now. Goes (b.without_own_log c log.dealer now)) w (records_log round.number log w q) (λ end mid q. q)) (λ e. q)

  below : (round : Round) (w : World) → P w → Throughout P (b.includes c round block st) w
  below round w q =
      walk.then_next c P (λ w line aside q. q) (b.observes c round block st (option_and_then its_log block.payload)) (λ now. i.advanced c (with_tip block (b.unserved block.height now))) w
      (observes round (option_and_then its_log block.payload) w q) (λ end mid q. walk.advanced c P (λ w line aside q. q) (with_tip block (b.unserved block.height end)) mid q)

  included : st.participation.stage ≡ Includes → PassesNothingOn c st (Finalized block) → (w : World) → P w → Throughout P (step c (Finalized block) st) w
  included is none w q =
      judged_is c block st (λ course. Throughout P course w) (λ t x y one other. along_if P w t x y one other) (λ fault e. q) (λ e. q)
      (λ accepted. subst (λ (stage : Stage). Throughout P (b.applies_in c block st stage) w) (sym is)
      (along_option P w st.participation.round (λ round. if is_last_height c block.height then b.final_block c round block st else b.includes c round block st) (Goes st)
      (λ round e. along_if P w (is_last_height c block.height) (b.final_block c round block st) (b.includes c round block st) (λ last. absurd (none accepted last)) (λ low. below round w q)) (λ e. q)))
      (λ e. q)

deals_apart : ◌≡◌ {A = Stage} Deals Includes → ⊥
deals_apart e = cc

follows_apart : ◌≡◌ {A = Stage} Follows Includes → ⊥
follows_apart e = cc

ends_apart : ◌≡◌ {A = Stage} Ends Includes → ⊥
ends_apart e = cc

pub node_steps_spare_shares : {Dir : Type 0} → NodeStepsSpareShares Dir
node_steps_spare_shares c st (Mailed mail) ended most w new secrets low none run = (node_steps_keep_secrets c st (Mailed mail) ended most w new secrets low run).1 tt
node_steps_spare_shares {Dir} c st (Finalized block) ended most w new secrets low none run = either st.participation.stage refl
  where
    others : (stage : Stage) → st.participation.stage ≡ stage → (stage ≡ Includes → ⊥) → KeepsShares most w.held new
    others stage is apart = (node_steps_keep_secrets c st (Finalized block) ended most w new secrets low run).1 (λ includes. apart (sym is ∙ includes))

    either : (stage : Stage) → st.participation.stage ≡ stage → KeepsShares most w.held new
    either Deals is = others Deals is deals_apart
    either Includes is = λ epoch share above got.
        let behind = steps_run_behind c st (Finalized block) ended w new run in
        let same = along_runs (P c st block w.held.secrets) (on_devices (step c (Finalized block) st)) behind.half w behind.mid (included c st block w.held.secrets is none w refl) behind.run in
        ap (λ (h : Held). get h.secrets.shares epoch) behind.held ∙ ap (λ (x : Secrets). get x.shares epoch) same ∙ got
    either Follows is = others Follows is follows_apart
    either Ends is = others Ends is ends_apart
