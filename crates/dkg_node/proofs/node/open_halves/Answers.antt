use Rattle.std.proofs.Common.{◌≡◌, Err, None, Ok, false, ap, subst, sym, ◌∙◌}
use Rattle.std.specs.declared.num.NonZeroU64.{NonZeroU64}
use Rattle.dkg_ceremony.specs.Dealings as dealings
use Rattle.dkg_ceremony.specs.Finishes as finishes
use Rattle.dkg_ceremony.specs.ValidLogs as logs
use Rattle.dkg_infos.specs.declared.directory.Unit as directory
use Rattle.dkg_core.specs.Core.{no_inclusion}
use Rattle.dkg_verifying.specs.InclusionOf.{IsSeen, IsSettledInclusion}
use Rattle.dkg_life.specs.declared.life.Life as reshare
use Rattle.dkg_around.specs.Orchestrator.{IsSettled}
use Rattle.dkg_around.specs.declared.players.Players as players
use Rattle.std.specs.Int.NonZero.{non_zero_u32_get, non_zero_u64_get}
use Rattle.std.proofs.lemmas.Result.{err_from_is_err_and}
use Rattle.std.specs.Prelude.{IsTrue}
use Rattle.dkg_ceremony.specs.declared.mode.Reveal.TheVariants.{V1}
use Rattle.dkg_text.specs.declared.script.Life.{Life}
use Rattle.dkg_text.specs.declared.script.Script.{Script}
use Rattle.dkg_reshare.specs.Actors.{AreTerms}
use Rattle.dkg_life.specs.Given.{AreGivenFrom}
use Rattle.dkg_life.specs.Made.{UnlessBroken}
use Rattle.dkg_life.specs.Planless.{seen_planless}
use Rattle.dkg_life.specs.declared.config.Terms.{Terms}
use Rattle.dkg_setup.proofs.Openings.{was_readable}
use Rattle.dkg_lives.specs.Given.{starts_above}
use Rattle.dkg_node.specs.Nodes.{ended_new}
use Rattle.dkg_node.proofs.NodeOpens.{above_from, ended_acts, ended_lines, found_as, found_nothing, given_ended, given_halted, given_opened, half_as, halted_acts, halted_lines, its, lent_is, life_with, number_is, opened_acts, opened_lines, opening_is, ready_is, planless_is}
use Rattle.dkg_node.proofs.Noding.{NodeInclusion, at_rules, including_both, of_terms, ready_node}
use Rattle.dkg_node.proofs.Shutting.{grammar_as, readable_ended}
use Rattle.dkg_node.proofs.node.open_halves.Goals as goal

pub returns-in_err-open-clause-acts : goal.returns-in_err-open-clause-acts
returns-in_err-open-clause-acts g c = λ disk secrets grammar.
    let p = err_from_is_err_and c.from_residual.result c.from_residual.ensures.1 in
    let are = c.requires.are in
    rw (p.1, p.2) (ended_acts c.args.script.now c.args.number c.args.life.now c.args.source.now (g.D.Disk.files c.args.devices.now.disk.now) c.requires.here.form c.requires.here.checked c.requires.here.life_is c.requires.here.source_is (c.args.actor.now).terms are _ c.open.new.fence (c.open.new.self).state c.in_err-open.field-0.0 (c.in_err-open.ensures.acts disk secrets (its c.args.script.now c.args.number c.args.life.now c.args.source.now (g.D.Disk.files c.args.devices.now.disk.now) c.requires.here.form c.requires.here.checked c.requires.here.life_is c.requires.here.source_is (c.args.actor.now).terms are) (opening_is c.args.script.now c.args.number c.args.life.now c.args.source.now (g.D.Disk.files c.args.devices.now.disk.now) c.requires.here.form c.requires.here.checked c.requires.here.life_is c.requires.here.source_is (c.args.actor.now).terms are grammar) (at_rules (life_with c.args.script.now c.args.number c.args.life.now c.args.source.now (g.D.Disk.files c.args.devices.now.disk.now) c.requires.here.form c.requires.here.checked c.requires.here.life_is c.requires.here.source_is (c.args.actor.now).terms are seen_planless) 0) c.requires.fresh))

pub returns-in_err-open-clause-tells : goal.returns-in_err-open-clause-tells
returns-in_err-open-clause-tells g c =
    let p = err_from_is_err_and c.from_residual.result c.from_residual.ensures.1 in
    let are = c.requires.are in
    rw (p.1, p.2) (ended_lines c.args.script.now c.args.number c.args.life.now c.args.source.now (g.D.Disk.files c.args.devices.now.disk.now) c.requires.here.form c.requires.here.checked c.requires.here.life_is c.requires.here.source_is (c.args.actor.now).terms are _ c.open.new.fence (c.open.new.self).state c.in_err-open.field-0.0 (λ s. UnlessBroken (ended_new (Err c.in_err-open.field-0.0)) (IsTrue g.D.Disk.tells → IsTrue g.X.SecretStore.tells → AreGivenFrom (starts_above c.args.script.now c.args.number c.args.life.now) s.dealings (g.D.Disk.image c.open.new.devices.disk.now) (g.X.SecretStore.held c.open.new.devices.secrets.now)))
    (given_ended c.args.script.now c.args.number c.args.life.now c.args.source.now (g.D.Disk.files c.args.devices.now.disk.now) c.requires.here.form c.requires.here.checked c.requires.here.life_is c.requires.here.source_is (c.args.actor.now).terms are (IsTrue g.D.Disk.tells) (IsTrue g.X.SecretStore.tells) (g.D.Disk.image c.open.new.devices.disk.now) (g.X.SecretStore.held c.open.new.devices.secrets.now) c.in_err-open.field-0.0) (c.in_err-open.ensures.tells (its c.args.script.now c.args.number c.args.life.now c.args.source.now (g.D.Disk.files c.args.devices.now.disk.now) c.requires.here.form c.requires.here.checked c.requires.here.life_is c.requires.here.source_is (c.args.actor.now).terms are) (lent_is c.args.script.now c.args.number c.args.life.now c.args.source.now (g.D.Disk.files c.args.devices.now.disk.now) c.requires.here.form c.requires.here.checked c.requires.here.life_is c.requires.here.source_is (c.args.actor.now).terms are) (number_is c.args.script.now c.args.number c.args.life.now c.args.source.now (g.D.Disk.files c.args.devices.now.disk.now) c.requires.here.form c.requires.here.checked c.requires.here.life_is c.requires.here.source_is (c.args.actor.now).terms are) (planless_is c.args.script.now c.args.number c.args.life.now c.args.source.now (g.D.Disk.files c.args.devices.now.disk.now) c.requires.here.form c.requires.here.checked c.requires.here.life_is c.requires.here.source_is (c.args.actor.now).terms are) (at_rules (life_with c.args.script.now c.args.number c.args.life.now c.args.source.now (g.D.Disk.files c.args.devices.now.disk.now) c.requires.here.form c.requires.here.checked c.requires.here.life_is c.requires.here.source_is (c.args.actor.now).terms are seen_planless) 0) c.requires.fresh))

pub returns-in_err-open-clause-loose : goal.returns-in_err-open-clause-loose
returns-in_err-open-clause-loose g c = λ told.
    let are = c.requires.are in
    above_from c.args.script.now c.args.number c.args.life.now c.args.source.now (g.D.Disk.files c.args.devices.now.disk.now) c.requires.here.form c.requires.here.checked c.requires.here.life_is c.requires.here.source_is (c.args.actor.now).terms are _ _ _ _ (c.in_err-open.ensures.loose told)

pub open-requires-2 : goal.open-requires-2
open-requires-2 g c =
    let are = c.requires.are in
    record { ready = ready_is c.args.script.now c.args.number c.args.life.now c.args.source.now (g.D.Disk.files c.args.devices.now.disk.now) c.requires.here.form c.requires.here.checked c.requires.here.life_is c.requires.here.source_is (c.args.actor.now).terms are _ c.open.new.fence (record { actor = c.open.new.self; fence = c.open.new.fence; half = record { entered = None; halted = false }; blocks_per_epoch = c.args.script.now.config.blocks_per_epoch }) _ c.in_ok-open.ensures.ends (c.in_ok-open.ensures.tells (its c.args.script.now c.args.number c.args.life.now c.args.source.now (g.D.Disk.files c.args.devices.now.disk.now) c.requires.here.form c.requires.here.checked c.requires.here.life_is c.requires.here.source_is (c.args.actor.now).terms are) (lent_is c.args.script.now c.args.number c.args.life.now c.args.source.now (g.D.Disk.files c.args.devices.now.disk.now) c.requires.here.form c.requires.here.checked c.requires.here.life_is c.requires.here.source_is (c.args.actor.now).terms are) (number_is c.args.script.now c.args.number c.args.life.now c.args.source.now (g.D.Disk.files c.args.devices.now.disk.now) c.requires.here.form c.requires.here.checked c.requires.here.life_is c.requires.here.source_is (c.args.actor.now).terms are) (planless_is c.args.script.now c.args.number c.args.life.now c.args.source.now (g.D.Disk.files c.args.devices.now.disk.now) c.requires.here.form c.requires.here.checked c.requires.here.life_is c.requires.here.source_is (c.args.actor.now).terms are) (at_rules (life_with c.args.script.now c.args.number c.args.life.now c.args.source.now (g.D.Disk.files c.args.devices.now.disk.now) c.requires.here.form c.requires.here.checked c.requires.here.life_is c.requires.here.source_is (c.args.actor.now).terms are seen_planless) 0) c.requires.fresh) _ (ap non_zero_u64_get are.blocks_are) }

pub returns-in_err-half-clause-acts : goal.returns-in_err-half-clause-acts
returns-in_err-half-clause-acts g c = λ disk secrets grammar.
    let p = err_from_is_err_and c.from_residual-in_err-half.result c.from_residual-in_err-half.ensures.1 in
    let are = c.requires.are in
    rw (p.1, p.2) (halted_acts c.args.script.now c.args.number c.args.life.now c.args.source.now (g.D.Disk.files c.args.devices.now.disk.now) c.requires.here.form c.requires.here.checked c.requires.here.life_is c.requires.here.source_is (c.args.actor.now).terms are _ c.open.new.fence (record { actor = c.open.new.self; fence = c.open.new.fence; half = record { entered = None; halted = false }; blocks_per_epoch = c.args.script.now.config.blocks_per_epoch }) _ c.in_ok-open.ensures.ends (c.in_ok-open.ensures.acts disk secrets (its c.args.script.now c.args.number c.args.life.now c.args.source.now (g.D.Disk.files c.args.devices.now.disk.now) c.requires.here.form c.requires.here.checked c.requires.here.life_is c.requires.here.source_is (c.args.actor.now).terms are) (opening_is c.args.script.now c.args.number c.args.life.now c.args.source.now (g.D.Disk.files c.args.devices.now.disk.now) c.requires.here.form c.requires.here.checked c.requires.here.life_is c.requires.here.source_is (c.args.actor.now).terms are grammar) (at_rules (life_with c.args.script.now c.args.number c.args.life.now c.args.source.now (g.D.Disk.files c.args.devices.now.disk.now) c.requires.here.form c.requires.here.checked c.requires.here.life_is c.requires.here.source_is (c.args.actor.now).terms are seen_planless) 0) c.requires.fresh) c.in_err-half.field-0.0 _ c.open-2.new.fence
    (λ fixed st half may. c.in_err-half.ensures.speaks fixed st (half_as half (ap non_zero_u64_get are.blocks_are)) may))

pub returns-in_err-half-clause-tells : goal.returns-in_err-half-clause-tells
returns-in_err-half-clause-tells g c =
    let p = err_from_is_err_and c.from_residual-in_err-half.result c.from_residual-in_err-half.ensures.1 in
    let are = c.requires.are in
    rw (p.1, p.2) (halted_lines c.args.script.now c.args.number c.args.life.now c.args.source.now (g.D.Disk.files c.args.devices.now.disk.now) c.requires.here.form c.requires.here.checked c.requires.here.life_is c.requires.here.source_is (c.args.actor.now).terms are _ c.open.new.fence (record { actor = c.open.new.self; fence = c.open.new.fence; half = record { entered = None; halted = false }; blocks_per_epoch = c.args.script.now.config.blocks_per_epoch }) _ c.in_ok-open.ensures.ends (c.in_ok-open.ensures.tells (its c.args.script.now c.args.number c.args.life.now c.args.source.now (g.D.Disk.files c.args.devices.now.disk.now) c.requires.here.form c.requires.here.checked c.requires.here.life_is c.requires.here.source_is (c.args.actor.now).terms are) (lent_is c.args.script.now c.args.number c.args.life.now c.args.source.now (g.D.Disk.files c.args.devices.now.disk.now) c.requires.here.form c.requires.here.checked c.requires.here.life_is c.requires.here.source_is (c.args.actor.now).terms are) (number_is c.args.script.now c.args.number c.args.life.now c.args.source.now (g.D.Disk.files c.args.devices.now.disk.now) c.requires.here.form c.requires.here.checked c.requires.here.life_is c.requires.here.source_is (c.args.actor.now).terms are) (planless_is c.args.script.now c.args.number c.args.life.now c.args.source.now (g.D.Disk.files c.args.devices.now.disk.now) c.requires.here.form c.requires.here.checked c.requires.here.life_is c.requires.here.source_is (c.args.actor.now).terms are) (at_rules (life_with c.args.script.now c.args.number c.args.life.now c.args.source.now (g.D.Disk.files c.args.devices.now.disk.now) c.requires.here.form c.requires.here.checked c.requires.here.life_is c.requires.here.source_is (c.args.actor.now).terms are seen_planless) 0) c.requires.fresh) c.in_err-half.field-0.0 _ c.open-2.new.fence (λ s. UnlessBroken (ended_new (Err c.in_err-half.field-0.0)) (IsTrue g.D.Disk.tells → IsTrue g.X.SecretStore.tells → AreGivenFrom (starts_above c.args.script.now c.args.number c.args.life.now) s.dealings (g.D.Disk.image c.open.new.devices.disk.now) (g.X.SecretStore.held c.open.new.devices.secrets.now)))
    (given_halted c.args.script.now c.args.number c.args.life.now c.args.source.now (g.D.Disk.files c.args.devices.now.disk.now) c.requires.here.form c.requires.here.checked c.requires.here.life_is c.requires.here.source_is (c.args.actor.now).terms are (IsTrue g.D.Disk.tells) (IsTrue g.X.SecretStore.tells) (g.D.Disk.image c.open.new.devices.disk.now) (g.X.SecretStore.held c.open.new.devices.secrets.now) c.in_err-half.field-0.0)
    (λ fixed st half may. c.in_err-half.ensures.speaks fixed st (half_as half (ap non_zero_u64_get are.blocks_are)) may))

pub returns-in_err-half-clause-readable : goal.returns-in_err-half-clause-readable
returns-in_err-half-clause-readable g c = λ told.
    let are = c.requires.are in
    was_readable (grammar_as _ _ (ap non_zero_u32_get are.limit_is) _ (c.in_ok-open.ensures.readable told).ok) _

pub returns-in_err-half-clause-causes : goal.returns-in_err-half-clause-causes
returns-in_err-half-clause-causes g c =
    let p = err_from_is_err_and c.from_residual-in_err-half.result c.from_residual-in_err-half.ensures.1 in
    rw (p.1, p.2) (found_nothing _ g.D.Disk.tells _ c.in_err-half.field-0.0 _ _ _ c.in_err-half.ensures.causes)

pub returns-in_err-half-clause-loose : goal.returns-in_err-half-clause-loose
returns-in_err-half-clause-loose g c = λ told.
    let are = c.requires.are in
    above_from c.args.script.now c.args.number c.args.life.now c.args.source.now (g.D.Disk.files c.args.devices.now.disk.now) c.requires.here.form c.requires.here.checked c.requires.here.life_is c.requires.here.source_is (c.args.actor.now).terms are _ _ _ _ (c.in_ok-open.ensures.loose told)

pub returns-clause-ready : goal.returns-clause-ready
returns-clause-ready g c =
    let are = c.requires.are in
    let length : c.args.script.now.config.blocks_per_epoch ≡ (c.open.new.self).terms.blocks_per_epoch = sym (ap (λ (t : Terms). t.blocks_per_epoch) c.in_ok-open.ensures.rest.4 ∙ are.blocks_are) in
    ready_node g.D.Disk.tells g.D.Disk.files g.D.Disk.image (record { actor = c.open.new.self; fence = c.open-2.new.fence; half = c.in_ok-half.half; blocks_per_epoch = c.args.script.now.config.blocks_per_epoch }) c.open.new.devices length c.in_ok-open.ensures.ends (including_both (c.open.new.self).state (IsSettledInclusion logs.check_log_of dealings.dealing_of finishes.finish_of (non_zero_u64_get (c.open.new.self).terms.blocks_per_epoch)) (λ (life : reshare.Life directory.Unit) (its : NodeInclusion). IsSeen its no_inclusion) c.in_ok-open.ensures.including).0
    (subst (λ (k : NonZeroU64). IsSettled (non_zero_u64_get k) c.in_ok-half.half) length c.in_ok-half.ensures.settled)

pub returns-clause-of : goal.returns-clause-of
returns-clause-of g c = λ lived same same_life none.
    let are = c.requires.are in
    of_terms lived (record { actor = c.open.new.self; fence = c.open-2.new.fence; half = c.in_ok-half.half; blocks_per_epoch = c.args.script.now.config.blocks_per_epoch }) c.args.script.now.config (ap (λ (s : Script). s.config) same) none (subst (λ (t : Terms). AreTerms t c.args.script.now.config.me c.args.script.now.config.blocks_per_epoch c.args.script.now.config.limit c.args.script.now.config.max_mode c.args.script.now.config.mode V1 c.args.script.now.config.namespace) (sym c.in_ok-open.ensures.rest.4) are)
    (ap (λ (p : players.Players). p.lines.now) c.in_ok-open.ensures.rest.2 ∙ c.requires.players)
    c.args.life.now.word (ap (λ (l : Life). l.word) same_life) c.in_ok-open.ensures.word

pub returns-clause-acts : goal.returns-clause-acts
returns-clause-acts g c = λ disk secrets grammar.
    let are = c.requires.are in
    opened_acts c.args.script.now c.args.number c.args.life.now c.args.source.now (g.D.Disk.files c.args.devices.now.disk.now) c.requires.here.form c.requires.here.checked c.requires.here.life_is c.requires.here.source_is (c.args.actor.now).terms are _ c.open.new.fence (record { actor = c.open.new.self; fence = c.open-2.new.fence; half = c.in_ok-half.half; blocks_per_epoch = c.args.script.now.config.blocks_per_epoch }) _ c.in_ok-open.ensures.ends (c.in_ok-open.ensures.acts disk secrets (its c.args.script.now c.args.number c.args.life.now c.args.source.now (g.D.Disk.files c.args.devices.now.disk.now) c.requires.here.form c.requires.here.checked c.requires.here.life_is c.requires.here.source_is (c.args.actor.now).terms are) (opening_is c.args.script.now c.args.number c.args.life.now c.args.source.now (g.D.Disk.files c.args.devices.now.disk.now) c.requires.here.form c.requires.here.checked c.requires.here.life_is c.requires.here.source_is (c.args.actor.now).terms are grammar) (at_rules (life_with c.args.script.now c.args.number c.args.life.now c.args.source.now (g.D.Disk.files c.args.devices.now.disk.now) c.requires.here.form c.requires.here.checked c.requires.here.life_is c.requires.here.source_is (c.args.actor.now).terms are seen_planless) 0) c.requires.fresh) (including_both (c.open.new.self).state (IsSettledInclusion logs.check_log_of dealings.dealing_of finishes.finish_of (non_zero_u64_get (c.open.new.self).terms.blocks_per_epoch)) (λ (life : reshare.Life directory.Unit) (its : NodeInclusion). IsSeen its no_inclusion) c.in_ok-open.ensures.including).1 _
    (λ fixed st half may. c.in_ok-half.ensures.speaks fixed st (half_as half (ap non_zero_u64_get are.blocks_are)) may)

pub returns-clause-tells : goal.returns-clause-tells
returns-clause-tells g c =
    let are = c.requires.are in
    opened_lines c.args.script.now c.args.number c.args.life.now c.args.source.now (g.D.Disk.files c.args.devices.now.disk.now) c.requires.here.form c.requires.here.checked c.requires.here.life_is c.requires.here.source_is (c.args.actor.now).terms are _ c.open.new.fence (record { actor = c.open.new.self; fence = c.open-2.new.fence; half = c.in_ok-half.half; blocks_per_epoch = c.args.script.now.config.blocks_per_epoch }) _ c.in_ok-open.ensures.ends (c.in_ok-open.ensures.tells (its c.args.script.now c.args.number c.args.life.now c.args.source.now (g.D.Disk.files c.args.devices.now.disk.now) c.requires.here.form c.requires.here.checked c.requires.here.life_is c.requires.here.source_is (c.args.actor.now).terms are) (lent_is c.args.script.now c.args.number c.args.life.now c.args.source.now (g.D.Disk.files c.args.devices.now.disk.now) c.requires.here.form c.requires.here.checked c.requires.here.life_is c.requires.here.source_is (c.args.actor.now).terms are) (number_is c.args.script.now c.args.number c.args.life.now c.args.source.now (g.D.Disk.files c.args.devices.now.disk.now) c.requires.here.form c.requires.here.checked c.requires.here.life_is c.requires.here.source_is (c.args.actor.now).terms are) (planless_is c.args.script.now c.args.number c.args.life.now c.args.source.now (g.D.Disk.files c.args.devices.now.disk.now) c.requires.here.form c.requires.here.checked c.requires.here.life_is c.requires.here.source_is (c.args.actor.now).terms are) (at_rules (life_with c.args.script.now c.args.number c.args.life.now c.args.source.now (g.D.Disk.files c.args.devices.now.disk.now) c.requires.here.form c.requires.here.checked c.requires.here.life_is c.requires.here.source_is (c.args.actor.now).terms are seen_planless) 0) c.requires.fresh) (including_both (c.open.new.self).state (IsSettledInclusion logs.check_log_of dealings.dealing_of finishes.finish_of (non_zero_u64_get (c.open.new.self).terms.blocks_per_epoch)) (λ (life : reshare.Life directory.Unit) (its : NodeInclusion). IsSeen its no_inclusion) c.in_ok-open.ensures.including).1 _ (λ s. UnlessBroken (ended_new (Ok (record { actor = c.open.new.self; fence = c.open-2.new.fence; half = c.in_ok-half.half; blocks_per_epoch = c.args.script.now.config.blocks_per_epoch }))) (IsTrue g.D.Disk.tells → IsTrue g.X.SecretStore.tells → AreGivenFrom (starts_above c.args.script.now c.args.number c.args.life.now) s.dealings (g.D.Disk.image c.open.new.devices.disk.now) (g.X.SecretStore.held c.open.new.devices.secrets.now)))
    (given_opened c.args.script.now c.args.number c.args.life.now c.args.source.now (g.D.Disk.files c.args.devices.now.disk.now) c.requires.here.form c.requires.here.checked c.requires.here.life_is c.requires.here.source_is (c.args.actor.now).terms are (IsTrue g.D.Disk.tells) (IsTrue g.X.SecretStore.tells) (g.D.Disk.image c.open.new.devices.disk.now) (g.X.SecretStore.held c.open.new.devices.secrets.now))
    (λ fixed st half may. c.in_ok-half.ensures.speaks fixed st (half_as half (ap non_zero_u64_get are.blocks_are)) may)

pub returns-clause-loose : goal.returns-clause-loose
returns-clause-loose g c = λ told.
    let are = c.requires.are in
    above_from c.args.script.now c.args.number c.args.life.now c.args.source.now (g.D.Disk.files c.args.devices.now.disk.now) c.requires.here.form c.requires.here.checked c.requires.here.life_is c.requires.here.source_is (c.args.actor.now).terms are _ _ _ _ (c.in_ok-open.ensures.loose told)

-- WHETHER IT WAS READABLE

pub returns-in_err-open-clause-readable : goal.returns-in_err-open-clause-readable
returns-in_err-open-clause-readable g c = λ told.
    let p = err_from_is_err_and c.from_residual.result c.from_residual.ensures.1 in
    let are = c.requires.are in
    rw (p.1, p.2) (readable_ended _ _ _ _ (ap non_zero_u32_get are.limit_is) _ c.in_err-open.field-0.0 (c.in_err-open.ensures.readable told))

pub returns-clause-readable : goal.returns-clause-readable
returns-clause-readable g c = λ told.
    let are = c.requires.are in
    was_readable (grammar_as _ _ (ap non_zero_u32_get are.limit_is) _ (c.in_ok-open.ensures.readable told).ok) _

-- THE CONFIGURATION is one that was checked

pub returns-in_err-open-clause-moved : goal.returns-in_err-open-clause-moved
returns-in_err-open-clause-moved g c = c.in_err-open.ensures.moved

pub returns-in_err-half-clause-moved : goal.returns-in_err-half-clause-moved
returns-in_err-half-clause-moved g c = c.in_ok-open.ensures.moved

pub returns-clause-moved : goal.returns-clause-moved
returns-clause-moved g c = c.in_ok-open.ensures.moved

pub returns-in_err-open-clause-causes : goal.returns-in_err-open-clause-causes
returns-in_err-open-clause-causes g c =
    let p = err_from_is_err_and c.from_residual.result c.from_residual.ensures.1 in
    let are = c.requires.are in
    rw (p.1, p.2) (found_as _ _ (ap non_zero_u32_get are.limit_is) g.D.Disk.tells _ c.in_err-open.field-0.0 _ _ _ c.in_err-open.ensures.causes)

-- WHAT ELSE is handed on

pub returns-in_err-open-clause-ready : goal.returns-in_err-open-clause-ready
returns-in_err-open-clause-ready g c = let p = err_from_is_err_and c.from_residual.result c.from_residual.ensures.1 in rw p.1 tt

pub returns-in_err-open-clause-of : goal.returns-in_err-open-clause-of
returns-in_err-open-clause-of g c = let p = err_from_is_err_and c.from_residual.result c.from_residual.ensures.1 in rw p.1 tt

pub returns-in_err-half-clause-ready : goal.returns-in_err-half-clause-ready
returns-in_err-half-clause-ready g c = let p = err_from_is_err_and c.from_residual-in_err-half.result c.from_residual-in_err-half.ensures.1 in rw p.1 tt

pub returns-in_err-half-clause-of : goal.returns-in_err-half-clause-of
returns-in_err-half-clause-of g c = let p = err_from_is_err_and c.from_residual-in_err-half.result c.from_residual-in_err-half.ensures.1 in rw p.1 tt

pub returns-clause-causes : goal.returns-clause-causes
returns-clause-causes g c = tt
