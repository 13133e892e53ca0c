use Rattle.std.proofs.Common.{◌≡◌, ℕ, ◌+◌, ◌-◌, ◌≤◌, true, false, List, [], sym, ap, subst, ◌∙◌, arith, map}
use Rattle.std.specs.Prelude.{Contains}
use Rattle.std.specs.List.{range_with_len}
use Rattle.std.proofs.lemmas.List.FromFn.{map-range_with_len_more}
use Rattle.dkg_ceremony.specs.declared.round.RoundParts.{RoundParts as Round}
use Rattle.dkg_generator.specs.Chain.{everybody}
use Rattle.dkg_generator.specs.Made.{MessageFrom, Shown, ack_from, acks_to, holds_share}
use Rattle.dkg_generator.proofs.Holders.{is_one_of}
use Rattle.dkg_generator.proofs.plan.acks_of.Goals as goal
use Rattle.dkg_generator.proofs.plan.acks_of.Goals.{then-holds_share+in_ok-halves+else-loop-key-test, else-holds_share}

pub loop-key-preserved : goal.loop-key-preserved
loop-key-preserved c =
    let key = c.loop-key.key in
    let more = map-range_with_len_more (ack_from c.args.number c.args.info.now) 2 (key - 2) key (omega arith) in
    let size : (key + 1) - 2 ≡ (key - 2) + 1 = omega arith in
    rw size (cc (more, c.loop-key.invariant, c.in_ok-push.ensures.items, c.in_ok-encode.ensures, c.in_ok-ack.ensures, c.new-signer.ensures, c.in_ok-halves.ensures.dealt, c.fresh_seed-seed.ensures, c.requires.round))

pub ack-requires : goal.ack-requires
ack-requires c =
    let one = subst (λ (key : ℕ). Contains everybody key) (sym c.new-signer.ensures) (is_one_of c.loop-key.key (omega arith) (omega arith)) in
    subst (λ (round : Round). Contains round.players c.new-signer.result) (sym c.requires.round) one

all_acks : (number : ℕ) (shown : Shown) (acks : List MessageFrom) (key : ℕ) → holds_share number shown.epoch ≡ true → key ≡ 8 → acks ≡ map (ack_from number shown) (range_with_len 2 (key - 2)) → acks ≡ acks_to number shown
unfolding acks_to
all_acks number shown acks key holds all is = rw holds (is ∙ ap (λ (k : ℕ). map (ack_from number shown) (range_with_len 2 (k - 2))) all)

no_acks : (number : ℕ) (shown : Shown) (acks : List MessageFrom) → holds_share number shown.epoch ≡ false → acks ≡ [] → acks ≡ acks_to number shown
unfolding acks_to
no_acks number shown acks holds none = rw holds none

pub returns : goal.returns
returns c =
    elim c.if-holds_share.branch [
      | then-holds_share+in_ok-halves+else-loop-key-test w ↦
          let holds = ap (λ (shown : Shown). holds_share c.args.number shown.epoch) (sym c.info.view_is) ∙ sym w.if-holds_share.ensures in
          rw w.acks-is (all_acks c.args.number c.args.info.now w.loop-key.acks.items w.loop-key.key holds (omega arith) w.loop-key.invariant)
      | else-holds_share w ↦
          let holds = ap (λ (shown : Shown). holds_share c.args.number shown.epoch) (sym c.info.view_is) ∙ sym w.if-holds_share.ensures in
          rw w.acks-is (no_acks c.args.number c.args.info.now c.new-acks.result.items holds c.new-acks.ensures.items)
    ]
