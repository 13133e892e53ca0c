use Rattle.std.proofs.Common.{◌≡◌, ℕ, ◌+◌, ◌-◌, sym, subst, arith, map}
use Rattle.std.specs.Prelude.{Contains}
use Rattle.std.specs.List.{range_with_len}
use Rattle.std.proofs.lemmas.List.FromFn.{map-range_with_len_more}
use Rattle.dkg_ceremony.specs.declared.round.RoundParts.{RoundParts as Round}
use Rattle.dkg_generator.specs.Chain.{signed_of}
use Rattle.dkg_generator.specs.Made.{dealing_from, dealings_of}
use Rattle.dkg_generator.proofs.Holders.{is_one_of}
use Rattle.dkg_generator.proofs.plan.all_deal.Goals as goal

pub loop-key-preserved : goal.loop-key-preserved
unfolding signed_of
loop-key-preserved c =
    let key = c.loop-key.key in
    let dealings = map-range_with_len_more (dealing_from c.args.number c.args.info.now) 2 (key - 2) key (omega arith) in
    let logs = map-range_with_len_more (signed_of c.args.number c.args.info.now) 2 (key - 2) key (omega arith) in
    let size : (key + 1) - 2 ≡ (key - 2) + 1 = omega arith in
    let halves = c.in_ok-halves.ensures.dealt in
    let seed = c.dealer_seed-seed.ensures in
    record {
      dealings = rw size (cc (dealings, c.loop-key.invariant.dealings, c.in_ok-push.ensures.items, c.in_ok-message_of.ensures, halves, seed));
      logs = rw size (cc (logs, c.loop-key.invariant.logs, c.in_ok-push-2.ensures.items, c.in_ok-sign.ensures, halves, seed, c.requires.round));
    }

pub deal-requires-clause-dealer : goal.deal-requires-clause-dealer
deal-requires-clause-dealer c = is_one_of c.loop-key.key (omega arith) (omega arith)

pub sign-requires-clause-dealers : goal.sign-requires-clause-dealers
sign-requires-clause-dealers c =
    let one = is_one_of c.loop-key.key (omega arith) (omega arith) in
    subst (λ (round : Round). Contains round.dealers c.loop-key.key) (sym c.requires.round) one

pub returns-clause-dealings : goal.returns-clause-dealings
unfolding dealings_of
returns-clause-dealings c =
    let all : c.loop-key.key - 2 ≡ 6 = omega arith in
    subst (λ (n : ℕ). c.loop-key.dealings.items ≡ map (dealing_from c.args.number c.args.info.now) (range_with_len 2 n)) all c.loop-key.invariant.dealings

pub returns-clause-logs : goal.returns-clause-logs
returns-clause-logs c =
    let all : c.loop-key.key - 2 ≡ 6 = omega arith in
    subst (λ (n : ℕ). c.loop-key.logs.items ≡ map (signed_of c.args.number c.args.info.now) (range_with_len 2 n)) all c.loop-key.invariant.logs
