-- A second call acknowledges as the first did.
use Rattle.std.proofs.Common.{◌≡◌, ℕ, List, Option, refl, sym, ◌∙◌}
use Rattle.dkg_journal.specs.Names.{Files}
use Rattle.dkg_script.specs.AsCut.{setting_as_cut}
use Rattle.dkg_script.specs.Blocks.{round_at, used}
use Rattle.dkg_script.specs.Progress.{progress}
use Rattle.dkg_script.specs.Promise.{with_plans}
use Rattle.dkg_script.specs.Readings.{SyncMaterial}
use Rattle.dkg_script.specs.Setting.{Setting}
use Rattle.dkg_script.proofs.OneAckAgain.{one_ack_again}
use Rattle.dkg_run.specs.Again.{AcknowledgesAsBefore}

-- An epoch's round is the same in each case of what the plan held.
bare : (s : Setting) (plans : List (Option SyncMaterial)) (epoch : ℕ) → round_at (with_plans s plans) epoch ≡ round_at s epoch
unfolding round_at used
bare s plans epoch = refl

pub acknowledges_as_before : {D : Type 0} (files : D → Files) (image : D → Files → Type 0) → AcknowledgesAsBefore files image
unfolding progress
acknowledges_as_before files image one two old new next later held held_now held_later added more kept here kept_next before after first rest epoch dealer ack other same current is is_next =
    let s : Setting = setting_as_cut one (files old) held added in
    let t : Setting = setting_as_cut two (files next) held_now more in
    let a = kept.1 kept.0.0 kept.0.1 in
    let b = kept_next.1 kept_next.0.0 kept_next.0.1 in
    one_ack_again image (with_plans s a.0) (with_plans t b.0) added more new later held_now held_later a.2 b.2 epoch dealer
    (record {
      files = here;
      secrets_are = refl;
      node = same.me;
      one_round = λ r q r_is q_is. same.rounds r q (sym (bare s a.0 epoch) ∙ r_is) (sym (bare t b.0 epoch) ∙ q_is);
    })
    (current a.0 a.1) before after first rest ack other is is_next
