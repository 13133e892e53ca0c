use Rattle.std.proofs.Common.{◌≡◌, ℕ, ◌+◌, ◌-◌, ◌∙◌, subst, arith, map}
use Rattle.std.specs.List.{range_with_len}
use Rattle.std.proofs.lemmas.List.FromFn.{map-range_with_len_more}
use Rattle.dkg_generator.specs.Made.{players_of}
use Rattle.dkg_generator.proofs.make.players.Goals as goal

pub loop-epoch-preserved : goal.loop-epoch-preserved
loop-epoch-preserved c =
    let epoch = c.loop-epoch.epoch in
    let more = map-range_with_len_more players_of 2 (epoch - 2) epoch (omega arith) in
    let size : (epoch + 1) - 2 ≡ (epoch - 2) + 1 = omega arith in
    rw size (cc (more, c.loop-epoch.invariant, c.in_ok-push.ensures.items, c.in_ok-everybody.ensures))

pub returns : goal.returns
returns c =
    let all : c.loop-epoch.epoch - 2 ≡ 5 = omega arith in
    c.new.ensures ∙ subst (λ (n : ℕ). c.loop-epoch.lines.items ≡ map players_of (range_with_len 2 n)) all c.loop-epoch.invariant
