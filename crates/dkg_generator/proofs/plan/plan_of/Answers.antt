use Rattle.std.proofs.Common.{◌≡◌, ℕ, List, take, ap, ◌∙◌, map}
use Rattle.dkg_ceremony.specs.declared.round.RoundParts.{RoundParts as Round}
use Rattle.dkg_ceremony.specs.declared.signed_log.SignedDealerLog.{SignedDealerLog}
use Rattle.dkg_ceremony.specs.Outcomes.{outcome_of}
use Rattle.dkg_infos.specs.NextInfos.{next_info}
use Rattle.dkg_generator.specs.Chain.{by_dealer, logs_included, info_made_after, provided, round_after}
use Rattle.dkg_generator.specs.Made.{Shown, info_bytes, log_bytes, log_payloads, next_of}
use Rattle.dkg_generator.proofs.Plans.{first_logs}
use Rattle.dkg_generator.proofs.plan.plan_of.Goals as goal

pub returns : goal.returns
unfolding info_made_after log_payloads next_of
returns c =
    let info = c.args.info.now in
    let all = c.deref.result.now in
    let count = c.included.ensures ∙ ap (λ (shown : Shown). logs_included c.args.number shown.epoch) c.info.view_is in
    let logs = ap (λ (n : ℕ). take n all) count ∙ first_logs c.args.number info all (c.deref.ensures.value ∙ c.in_ok-dealt.ensures.logs) in
    let next =
    c.in_ok-next.ensures
    ∙ ap (λ (round : Round). next_info outcome_of provided info round (by_dealer (take c.included.result all))) c.in_ok-round.ensures
    ∙ ap (λ (some : List SignedDealerLog). next_info outcome_of provided info (round_after info) (by_dealer some)) logs in
    record {
      first = c.in_ok-first.ensures;
      logs = c.in_ok-log_payloads.ensures ∙ ap (map log_bytes) logs;
      next = c.in_ok-info_bytes.ensures ∙ ap info_bytes next;
      dealings = c.in_ok-dealt.ensures.dealings;
      acks = c.in_ok-acks_of.ensures;
      info = next;
    }
