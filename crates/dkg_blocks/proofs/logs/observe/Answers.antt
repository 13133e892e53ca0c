use Rattle.std.proofs.Common.{arith, ◌≡◌, None, Option, Some, ap, refl, sym, true, false, ◌∙◌}
use Rattle.std.specs.Prelude.{option_and_then}
use Rattle.std.specs.Option.{option_copied}
use Rattle.std.proofs.lemmas.Grind.{common_steps}
use Rattle.std.proofs.lemmas.Result.{err_from_is_err_and}
use Rattle.dkg_ceremony.specs.Logs.{LogFits}
use Rattle.dkg_ceremony.specs.declared.round.RoundParts.{RoundParts as Round}
use Rattle.dkg_ceremony.specs.declared.signed_log.SignedDealerLog.{SignedDealerLog}
use Rattle.dkg_store.specs.Acts.{broken, by_want, went}
use Rattle.dkg_store.specs.declared.store.Store.{Store}
use Rattle.dkg_types.specs.PayloadCodes.{its_log}
use Rattle.dkg_core.specs.Blocks as blocks
use Rattle.dkg_blocks.specs.CarriedLogs.{cleared_of}
use Rattle.dkg_life.specs.LiveOf.{live_of}
use Rattle.dkg_life.proofs.Burning.{speaks_makes}
use Rattle.dkg_life.proofs.Kept.{moved_none}
use Rattle.dkg_blocks.proofs.Observed.{bare_speaks, counts_as, observed_makes, observed_told, passed_over, ready_logged, unrecorded_makes, unrecorded_told}
use Rattle.dkg_life.proofs.Said.{speaks_tells}
use Rattle.dkg_life.proofs.Seated.{at_some, same_some}
use Rattle.dkg_life.proofs.Speaking.{want_speaks}
use Rattle.dkg_blocks.proofs.logs.observe.Goals as goal

no_round : {A : Type 0} (o : Option Round) (round : Round) → o ≡ None → o ≡ Some round → A
no_round o round none some = absurd cc

-- WITHOUT A ROUND

pub returns-in_default-clause-acts : goal.returns-in_default-clause-acts
returns-in_default-clause-acts g c = λ disk secrets fixed round beside fence out mine by has. no_round c.args.life.now.round round c.in_default.is has

pub returns-in_default-clause-tells : goal.returns-in_default-clause-tells
returns-in_default-clause-tells g c = λ fixed round beside fence out mine by has. no_round c.args.life.now.round round c.in_default.is has

pub returns-in_default-clause-moved : goal.returns-in_default-clause-moved
returns-in_default-clause-moved g c = moved_none g.D.Disk.tells g.D.Disk.made g.X.SecretStore.made g.D.Disk.faults g.X.SecretStore.faults g.met.D.Disk.made_none g.met.X.SecretStore.made_none c.args.devices.now

pub returns-in_default-clause-fit : goal.returns-in_default-clause-fit
returns-in_default-clause-fit g c = λ told most fits fit. fit

pub returns-in_default-clause-ready : goal.returns-in_default-clause-ready
returns-in_default-clause-ready g c = c.requires.ready

-- NO LOG IS CARRIED

pub returns-in_default-log_in-clause-acts : goal.returns-in_default-log_in-clause-acts
returns-in_default-log_in-clause-acts g c = λ disk secrets fixed round beside fence out mine by has.
    speaks_makes (blocks.observes fixed round c.args.block.now (live_of beside fence c.args.life.now) (option_and_then its_log c.args.block.now.payload)) (went (live_of beside fence c.args.life.now)) _ _
    (bare_speaks fixed round c.args.block.now (live_of beside fence c.args.life.now) (live_of beside fence c.args.life.now) refl (sym c.log_in.ensures ∙ ap option_copied c.in_default-log_in.is) out)

pub returns-in_default-log_in-clause-tells : goal.returns-in_default-log_in-clause-tells
returns-in_default-log_in-clause-tells g c = λ fixed round beside fence out mine by has.
    speaks_tells (blocks.observes fixed round c.args.block.now (live_of beside fence c.args.life.now) (option_and_then its_log c.args.block.now.payload)) (went (live_of beside fence c.args.life.now))
    (bare_speaks fixed round c.args.block.now (live_of beside fence c.args.life.now) (live_of beside fence c.args.life.now) refl (sym c.log_in.ensures ∙ ap option_copied c.in_default-log_in.is) out)

pub returns-in_default-log_in-clause-moved : goal.returns-in_default-log_in-clause-moved
returns-in_default-log_in-clause-moved g c = moved_none g.D.Disk.tells g.D.Disk.made g.X.SecretStore.made g.D.Disk.faults g.X.SecretStore.faults g.met.D.Disk.made_none g.met.X.SecretStore.made_none c.args.devices.now

pub returns-in_default-log_in-clause-fit : goal.returns-in_default-log_in-clause-fit
returns-in_default-log_in-clause-fit g c = λ told most fits fit. fit

pub returns-in_default-log_in-clause-ready : goal.returns-in_default-log_in-clause-ready
returns-in_default-log_in-clause-ready g c = c.requires.ready

-- NO MEMORY TO CHECK IT

pub returns-in_err-counts-clause-acts : goal.returns-in_err-counts-clause-acts
returns-in_err-counts-clause-acts g c = λ disk secrets fixed round beside fence out mine by has.
    let p = err_from_is_err_and c.from_residual.result c.from_residual.ensures.1 in
    rw (p.1, p.2) (speaks_makes (blocks.observes fixed round c.args.block.now (live_of beside fence c.args.life.now) (option_and_then its_log c.args.block.now.payload)) (broken by_want) _ _ (want_speaks (blocks.observes fixed round c.args.block.now (live_of beside fence c.args.life.now) (option_and_then its_log c.args.block.now.payload)) out))

pub returns-in_err-counts-clause-tells : goal.returns-in_err-counts-clause-tells
returns-in_err-counts-clause-tells g c = λ fixed round beside fence out mine by has.
    let p = err_from_is_err_and c.from_residual.result c.from_residual.ensures.1 in
    rw (p.1, p.2) (speaks_tells (blocks.observes fixed round c.args.block.now (live_of beside fence c.args.life.now) (option_and_then its_log c.args.block.now.payload)) (broken by_want) (want_speaks (blocks.observes fixed round c.args.block.now (live_of beside fence c.args.life.now) (option_and_then its_log c.args.block.now.payload)) out))

pub returns-in_err-counts-clause-moved : goal.returns-in_err-counts-clause-moved
returns-in_err-counts-clause-moved g c = moved_none g.D.Disk.tells g.D.Disk.made g.X.SecretStore.made g.D.Disk.faults g.X.SecretStore.faults g.met.D.Disk.made_none g.met.X.SecretStore.made_none c.args.devices.now

pub returns-in_err-counts-clause-fit : goal.returns-in_err-counts-clause-fit
returns-in_err-counts-clause-fit g c = λ told most fits fit. fit

-- IT DOESN'T COUNT

pub returns-then-not-counts-clause-acts : goal.returns-then-not-counts-clause-acts
returns-then-not-counts-clause-acts g c = λ disk secrets fixed round beside fence out mine by has.
    let no : c.in_ok-counts.counts ≡ false = grind (arith, common_steps) in
    let same : round ≡ c.in-Some.round = same_some round c.in-Some.round (sym has ∙ c.in-Some.is) in
    speaks_makes (blocks.observes fixed round c.args.block.now (live_of beside fence c.args.life.now) (option_and_then its_log c.args.block.now.payload)) (went (live_of beside fence c.args.life.now)) _ _
    (passed_over fixed round c.args.block.now (live_of beside fence c.args.life.now) c.in-Some-log_in.signed.now (sym c.log_in.ensures ∙ ap option_copied c.in-Some-log_in.is) (live_of beside fence c.args.life.now) refl
    (counts_as fixed g.C.Ceremony.check_log_of by round c.in-Some-log_in.signed.now c.in_ok-counts.counts (rw same c.in_ok-counts.ensures) ∙ no) out)

pub returns-then-not-counts-clause-tells : goal.returns-then-not-counts-clause-tells
returns-then-not-counts-clause-tells g c = λ fixed round beside fence out mine by has.
    let no : c.in_ok-counts.counts ≡ false = grind (arith, common_steps) in
    let same : round ≡ c.in-Some.round = same_some round c.in-Some.round (sym has ∙ c.in-Some.is) in
    speaks_tells (blocks.observes fixed round c.args.block.now (live_of beside fence c.args.life.now) (option_and_then its_log c.args.block.now.payload)) (went (live_of beside fence c.args.life.now))
    (passed_over fixed round c.args.block.now (live_of beside fence c.args.life.now) c.in-Some-log_in.signed.now (sym c.log_in.ensures ∙ ap option_copied c.in-Some-log_in.is) (live_of beside fence c.args.life.now) refl
    (counts_as fixed g.C.Ceremony.check_log_of by round c.in-Some-log_in.signed.now c.in_ok-counts.counts (rw same c.in_ok-counts.ensures) ∙ no) out)

pub returns-then-not-counts-clause-moved : goal.returns-then-not-counts-clause-moved
returns-then-not-counts-clause-moved g c = moved_none g.D.Disk.tells g.D.Disk.made g.X.SecretStore.made g.D.Disk.faults g.X.SecretStore.faults g.met.D.Disk.made_none g.met.X.SecretStore.made_none c.args.devices.now

pub returns-then-not-counts-clause-fit : goal.returns-then-not-counts-clause-fit
returns-then-not-counts-clause-fit g c = λ told most fits fit. fit

pub returns-then-not-counts-clause-ready : goal.returns-then-not-counts-clause-ready
returns-then-not-counts-clause-ready g c = c.requires.ready

-- IT WAS NOT RECORDED

pub record-requires : goal.record-requires
record-requires g c = record { firm = c.requires.ready.firm }

pub returns-in_err-record-clause-rest : goal.returns-in_err-record-clause-rest
returns-in_err-record-clause-rest g c = λ i. record c.args.life.now { store = c.record.ensures.rest i }

pub returns-in_err-record-clause-acts : goal.returns-in_err-record-clause-acts
returns-in_err-record-clause-acts g c = λ disk secrets fixed round beside fence out mine by has.
    let p = err_from_is_err_and c.from_residual-in_err-record.result c.from_residual-in_err-record.ensures.1 in
    let yes : c.in_ok-counts.counts ≡ true = grind (arith, common_steps) in
    let same : round ≡ c.in-Some.round = same_some round c.in-Some.round (sym has ∙ c.in-Some.is) in
    rw (p.1, p.2) (unrecorded_makes fixed round c.args.block.now (live_of beside fence c.args.life.now) c.in-Some-log_in.signed.now (sym c.log_in.ensures ∙ ap option_copied c.in-Some-log_in.is)
    (counts_as fixed g.C.Ceremony.check_log_of by round c.in-Some-log_in.signed.now c.in_ok-counts.counts (rw same c.in_ok-counts.ensures) ∙ yes) c.in_err-record.field-0.0
    (rw (same, ap (λ (r : Round). r.number) (sym c.parts.ensures), sym c.height.ensures) (c.in_err-record.ensures.acts disk secrets c.args.life.now beside fence out refl)))

pub returns-in_err-record-clause-tells : goal.returns-in_err-record-clause-tells
returns-in_err-record-clause-tells g c = λ fixed round beside fence out mine by has.
    let p = err_from_is_err_and c.from_residual-in_err-record.result c.from_residual-in_err-record.ensures.1 in
    let yes : c.in_ok-counts.counts ≡ true = grind (arith, common_steps) in
    let same : round ≡ c.in-Some.round = same_some round c.in-Some.round (sym has ∙ c.in-Some.is) in
    rw (p.1, p.2) (unrecorded_told fixed round c.args.block.now (live_of beside fence c.args.life.now) c.in-Some-log_in.signed.now (sym c.log_in.ensures ∙ ap option_copied c.in-Some-log_in.is)
    (counts_as fixed g.C.Ceremony.check_log_of by round c.in-Some-log_in.signed.now c.in_ok-counts.counts (rw same c.in_ok-counts.ensures) ∙ yes) c.in_err-record.field-0.0
    (rw (same, ap (λ (r : Round). r.number) (sym c.parts.ensures), sym c.height.ensures) (c.in_err-record.ensures.tells c.args.life.now beside fence out refl)))

pub returns-in_err-record-clause-moved : goal.returns-in_err-record-clause-moved
returns-in_err-record-clause-moved g c = c.record.ensures.moved

pub returns-in_err-record-clause-causes : goal.returns-in_err-record-clause-causes
returns-in_err-record-clause-causes g c =
    let p = err_from_is_err_and c.from_residual-in_err-record.result c.from_residual-in_err-record.ensures.1 in
    rw (p.1, p.2) c.in_err-record.ensures.causes

pub returns-in_err-record-clause-fit : goal.returns-in_err-record-clause-fit
returns-in_err-record-clause-fit g c = λ told most fits fit.
    c.record.ensures.fit told most (at_some (λ (s : SignedDealerLog). LogFits most s.log) (option_and_then its_log c.args.block.now.payload) c.in-Some-log_in.signed.now (sym c.log_in.ensures ∙ ap option_copied c.in-Some-log_in.is) fits) fit

-- IT WAS

pub returns-clause-rest : goal.returns-clause-rest
returns-clause-rest g c =
    c.clear_own.ensures.rest ∙ (λ i. record c.args.life.now { store = c.record.ensures.rest i; dealer = cleared_of c.args.terms.now.me c.in-Some-log_in.signed.now.dealer c.args.life.now.dealer })
    ∙ (λ i. record c.args.life.now {
      store = record c.args.life.now.store { journal = (sym c.clear_own.ensures.rest i).store.journal; logs = (sym c.clear_own.ensures.rest i).store.logs };
      dealer = (sym c.clear_own.ensures.rest i).dealer;
    })

pub returns-clause-ready : goal.returns-clause-ready
returns-clause-ready g c =
    rw c.clear_own.ensures.rest (ready_logged g.D.Disk.tells g.D.Disk.files g.D.Disk.image g.C.Ceremony.ack_of g.C.Ceremony.deal_of g.C.Ceremony.check_ack_of c.args.terms.now c.args.life.now c.args.devices.now c.record.new.devices
    c.requires.ready c.record.new.store c.in-Some-log_in.signed.now.dealer (ap (λ (s : Store g.row.Dir.Denot). s.dealings) c.record.ensures.rest) c.in_ok-record.ensures.firm)

pub returns-clause-acts : goal.returns-clause-acts
returns-clause-acts g c = λ disk secrets fixed round beside fence out mine by has.
    let yes : c.in_ok-counts.counts ≡ true = grind (arith, common_steps) in
    let same : round ≡ c.in-Some.round = same_some round c.in-Some.round (sym has ∙ c.in-Some.is) in
    observed_makes fixed round c.args.block.now (live_of beside fence c.args.life.now) c.in-Some-log_in.signed.now (sym c.log_in.ensures ∙ ap option_copied c.in-Some-log_in.is)
    (counts_as fixed g.C.Ceremony.check_log_of by round c.in-Some-log_in.signed.now c.in_ok-counts.counts (rw same c.in_ok-counts.ensures) ∙ yes)
    (live_of beside fence (record c.args.life.now { store = c.record.new.store })) (live_of beside fence c.clear_own.new.life) (c.clear_own.ensures.cleared fixed beside fence mine)
    (rw (same, ap (λ (r : Round). r.number) (sym c.parts.ensures), sym c.height.ensures) (c.in_ok-record.ensures.acts disk secrets c.args.life.now beside fence out refl))

pub returns-clause-tells : goal.returns-clause-tells
returns-clause-tells g c = λ fixed round beside fence out mine by has.
    let yes : c.in_ok-counts.counts ≡ true = grind (arith, common_steps) in
    let same : round ≡ c.in-Some.round = same_some round c.in-Some.round (sym has ∙ c.in-Some.is) in
    observed_told fixed round c.args.block.now (live_of beside fence c.args.life.now) c.in-Some-log_in.signed.now (sym c.log_in.ensures ∙ ap option_copied c.in-Some-log_in.is)
    (counts_as fixed g.C.Ceremony.check_log_of by round c.in-Some-log_in.signed.now c.in_ok-counts.counts (rw same c.in_ok-counts.ensures) ∙ yes)
    (live_of beside fence (record c.args.life.now { store = c.record.new.store })) (live_of beside fence c.clear_own.new.life) (c.clear_own.ensures.cleared fixed beside fence mine)
    (rw (same, ap (λ (r : Round). r.number) (sym c.parts.ensures), sym c.height.ensures) (c.in_ok-record.ensures.tells c.args.life.now beside fence out refl))

pub returns-clause-moved : goal.returns-clause-moved
returns-clause-moved g c = c.record.ensures.moved

pub returns-clause-fit : goal.returns-clause-fit
returns-clause-fit g c = λ told most fits fit.
    c.record.ensures.fit told most (at_some (λ (s : SignedDealerLog). LogFits most s.log) (option_and_then its_log c.args.block.now.payload) c.in-Some-log_in.signed.now (sym c.log_in.ensures ∙ ap option_copied c.in-Some-log_in.is) fits) fit
