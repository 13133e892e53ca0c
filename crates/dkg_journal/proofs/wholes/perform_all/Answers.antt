use Rattle.std.proofs.Common.{◌≡◌, ◌+◌, ◌++◌, ◌∷◌, [], List, Ok, take, drop, refl, sym, ◌∙◌, ap, subst, append_assoc, arith, rules}
use Rattle.std.proofs.lemmas.List.{take_all}
use Rattle.std.proofs.lemmas.Result.{err_from_is_err_and}
use Rattle.dkg_journal.specs.Disk.{ImagesFollow, files_after}
use Rattle.dkg_journal.specs.Wholes.{Amid, Becomes, after_all}
use Rattle.dkg_journal.specs.declared.disk.Op.{Op}
use Rattle.dkg_journal.proofs.Amid.{after_push, becomes_amid, becomes_none, follows_amid, follows_becomes, pushed, split_at, whole_allowed, whole_at}
use Rattle.dkg_journal.proofs.Counted.{caused_none, caused_then}
use Rattle.dkg_journal.proofs.Fuses.{not_err}
use Rattle.dkg_journal.proofs.Steps.{all_same, ran_all, ran_more, ran_same, run_err, run_ok, then_all}
use Rattle.dkg_journal.proofs.wholes.perform_all.Goals as goal

pub loop-op-init : goal.loop-op-init
loop-op-init g c = record {
  files = λ tells. refl;
  done = λ tells. becomes_none _;
  all = record { each = g.met.D.Disk.made_none _; fuse = refl };
  caused = caused_none _ _ _ _ _ (Ok tt) _ _ (λ is. not_err tt _ is) (λ is. not_err tt _ is);
}

pub perform-requires : goal.perform-requires
perform-requires g c = λ tells. whole_allowed c.op-item.result _ (whole_at c.args.ops.now c.loop-op.op-index c.op-item.result c.op-item.is c.loop-op-test.true (c.requires tells))

pub loop-op-preserved : goal.loop-op-preserved
loop-op-preserved g c =
    let op = c.op-item.result in
    let i = c.loop-op.op-index in
    let more : take (i + 1) c.args.ops.now ≡ take i c.args.ops.now ++ op ∷ [] = pushed c.args.ops.now i op c.op-item.is c.loop-op-test.true in
    let inv = c.loop-op.invariant in
    record {
      files = λ tells. (c.in_ok-perform.ensures.done tells).reads ∙ ap (files_after op) (inv.files tells) ∙ sym (after_push (take i c.args.ops.now) op _) ∙ ap (λ (l : List Op). after_all l (g.D.Disk.files c.args.disk.now)) (sym more);
      done = λ tells. subst (λ (l : List Op). ImagesFollow (Becomes l) (g.D.Disk.image c.args.disk.now) (g.D.Disk.image c.perform.new.disk)) (sym more) (follows_becomes (take i c.args.ops.now) op _ _ _ (whole_at c.args.ops.now i op c.op-item.is c.loop-op-test.true (c.requires tells)) (inv.done tells) c.perform.ensures.crash _ _ (c.in_ok-perform.ensures.done tells));
      all = all_same g.D.Disk.made _ _ _ _ _ _ (sym more) (then_all g.D.Disk.made g.met.D.Disk.made_more _ _ _ _ _ _ (take i c.args.ops.now) (op ∷ []) inv.all (record { each = c.perform.ensures.calls; fuse = c.perform.ensures.counted }));
      caused = search (rules, caused_then, inv.caused, c.perform.ensures.caused);
    }

pub returns-in_err-perform-clause-amid : goal.returns-in_err-perform-clause-amid
returns-in_err-perform-clause-amid g c = λ tells.
    let op = c.op-item.result in
    let i = c.loop-op.op-index in
    let whole = whole_at c.args.ops.now i op c.op-item.is c.loop-op-test.true (c.requires tells) in
    subst (λ (l : List Op). ImagesFollow (Amid l) (g.D.Disk.image c.args.disk.now) (g.D.Disk.image c.perform.new.disk)) (split_at c.args.ops.now i op c.op-item.is c.loop-op-test.true) (follows_amid (take i c.args.ops.now) op _ _ _ whole (c.loop-op.invariant.done tells) c.perform.ensures.crash (drop (i + 1) c.args.ops.now))

pub returns-in_err-perform-clause-calls : goal.returns-in_err-perform-clause-calls
returns-in_err-perform-clause-calls g c =
    let p = err_from_is_err_and c.from_residual.result c.from_residual.ensures.1 in
    let op = c.op-item.result in
    let i = c.loop-op.op-index in
    let all = then_all g.D.Disk.made g.met.D.Disk.made_more _ _ _ _ _ _ (take i c.args.ops.now) (op ∷ []) c.loop-op.invariant.all (record { each = c.perform.ensures.calls; fuse = c.perform.ensures.counted }) in
    run_err g.D.Disk.made c.from_residual.result _ _ _ _ _ p.0 p.1
    (ran_same g.D.Disk.made _ _ _ _ _ _ (append_assoc (take i c.args.ops.now) (op ∷ []) (drop (i + 1) c.args.ops.now) ∙ split_at c.args.ops.now i op c.op-item.is c.loop-op-test.true)
    (ran_more g.D.Disk.made _ _ _ _ (take i c.args.ops.now ++ op ∷ []) (drop (i + 1) c.args.ops.now) (ran_all g.D.Disk.made _ _ _ _ _ all)))

pub returns-clause-amid : goal.returns-clause-amid
returns-clause-amid g c = λ tells.
    let whole : take c.loop-op.op-index c.args.ops.now ≡ c.args.ops.now = take_all c.loop-op.op-index c.args.ops.now (omega (arith, c.loop-op-test.false)) in
    becomes_amid c.args.ops.now _ _ (subst (λ (l : List Op). ImagesFollow (Becomes l) (g.D.Disk.image c.args.disk.now) (g.D.Disk.image c.loop-op.disk)) whole (c.loop-op.invariant.done tells))

pub returns-clause-calls : goal.returns-clause-calls
returns-clause-calls g c =
    let whole : take c.loop-op.op-index c.args.ops.now ≡ c.args.ops.now = take_all c.loop-op.op-index c.args.ops.now (omega (arith, c.loop-op-test.false)) in
    run_ok g.D.Disk.made _ _ _ _ _ tt (all_same g.D.Disk.made _ _ _ _ _ _ whole c.loop-op.invariant.all)
