use Rattle.std.proofs.Common.{◌≡◌, true, None, Contains, is_some, sym, ◌∙◌, ap, subst}
use Rattle.dkg_ceremony.specs.declared.round.RoundParts.{RoundParts as Round}
use Rattle.dkg_store.specs.Recorded.{first_refused, of_epoch}
use Rattle.dkg_core.specs.Fixed.{has}
use Rattle.dkg_life.proofs.Seated.{at_some}
use Rattle.dkg_verifying.proofs.Verified.{dealings_here, lacking, lacking_passes, passes_here, runs_alone, runs_seated, seated, seated_passes, some_at}
use Rattle.dkg_verifying.proofs.verifying.player_for.Goals as goal
use Rattle.dkg_verifying.proofs.verifying.player_for.Goals.{in-None, in-Some+in_ok-dealings-in-Some}

pub returns-clause-made : goal.returns-clause-made
returns-clause-made g c =
    let round = c.args.round.now in
    let logs = c.args.logs.now in
    let store = c.args.store.now in
    let me = c.args.me in
    let bears_ack_of = g.C.Ceremony.bears_ack_of in
    let dealing_of = g.C.Ceremony.dealing_of in
    let number : c.parts-2.result.now.number ≡ round.number = ap (λ (r : Round). r.number) c.parts-2.ensures in
    let plays : has round.players me ≡ true = ap (λ (r : Round). has r.players me) (sym c.parts.ensures) ∙ sym c.has.ensures.index ∙ c.if-not-has.false in
    let some = some_at round logs store me bears_ack_of dealing_of c.parts-2.result.now.number number (is_some c.in_ok-create_player_with_logs.field-0) c.in_ok-create_player_with_logs.ensures.some in
    elim c.match-branch-2.branch [
      | in-None w ↦ rw w.result-is (λ fixed st mine bears checks records.
          lacking fixed round logs st store me bears_ack_of dealing_of mine bears checks records plays (sym (ap is_some w.in-None.is) ∙ some))
      | in-Some+in_ok-dealings-in-Some w ↦ rw w.result-is (λ fixed st mine bears checks records.
          seated fixed round logs st store me bears_ack_of dealing_of mine bears checks records plays (sym (ap is_some w.in-Some.is) ∙ some) _
          (dealings_here round logs store me bears_ack_of dealing_of c.parts-2.result.now.number number _ w.in_ok-dealings-in-Some.ensures))
    ]

pub returns-clause-runs : goal.returns-clause-runs
returns-clause-runs g c =
    let round = c.args.round.now in
    let logs = c.args.logs.now in
    let store = c.args.store.now in
    let me = c.args.me in
    let bears_ack_of = g.C.Ceremony.bears_ack_of in
    let dealing_of = g.C.Ceremony.dealing_of in
    let finish_of = g.C.Ceremony.finish_of in
    let number : c.parts-2.result.now.number ≡ round.number = ap (λ (r : Round). r.number) c.parts-2.ensures in
    let plays : Contains round.players me = subst (λ (r : Round). Contains r.players me) c.parts.ensures (c.has.ensures.member.0 c.if-not-has.false) in
    let some = some_at round logs store me bears_ack_of dealing_of c.parts-2.result.now.number number (is_some c.in_ok-create_player_with_logs.field-0) c.in_ok-create_player_with_logs.ensures.some in
    elim c.match-branch-2.branch [
      | in-None w ↦ rw w.result-is (runs_alone dealing_of finish_of round logs)
      | in-Some+in_ok-dealings-in-Some w ↦ rw w.result-is (runs_seated dealing_of finish_of round logs store me bears_ack_of (g.C.Ceremony.selected_of round logs) _
          (dealings_here round logs store me bears_ack_of dealing_of c.parts-2.result.now.number number _ w.in_ok-dealings-in-Some.ensures)
          (c.finishes_agree.ensures.missing round me _ logs) plays (sym (ap is_some w.in-Some.is) ∙ some)
          (passes_here round logs store me bears_ack_of dealing_of c.parts-2.result.now.number number
          (at_some (λ player. first_refused (dealing_of round me) (of_epoch c.parts-2.result.now.number store.dealings) ≡ None) c.in_ok-create_player_with_logs.field-0 _ w.in-Some.is
          c.in_ok-create_player_with_logs.ensures.passes)))
    ]

pub returns-clause-passes : goal.returns-clause-passes
returns-clause-passes g c =
    let round = c.args.round.now in
    let logs = c.args.logs.now in
    let store = c.args.store.now in
    let me = c.args.me in
    let bears_ack_of = g.C.Ceremony.bears_ack_of in
    let dealing_of = g.C.Ceremony.dealing_of in
    let number : c.parts-2.result.now.number ≡ round.number = ap (λ (r : Round). r.number) c.parts-2.ensures in
    let plays : has round.players me ≡ true = ap (λ (r : Round). has r.players me) (sym c.parts.ensures) ∙ sym c.has.ensures.index ∙ c.if-not-has.false in
    let some = some_at round logs store me bears_ack_of dealing_of c.parts-2.result.now.number number (is_some c.in_ok-create_player_with_logs.field-0) c.in_ok-create_player_with_logs.ensures.some in
    elim c.match-branch-2.branch [
      | in-None w ↦ rw w.result-is (λ fixed st mine bears checks records.
          lacking_passes fixed round logs st store me bears_ack_of dealing_of mine bears checks records plays (sym (ap is_some w.in-None.is) ∙ some))
      | in-Some+in_ok-dealings-in-Some w ↦ rw w.result-is (λ fixed st mine bears checks records.
          seated_passes fixed round logs st store me bears_ack_of dealing_of mine bears checks records plays (sym (ap is_some w.in-Some.is) ∙ some)
          (passes_here round logs store me bears_ack_of dealing_of c.parts-2.result.now.number number
          (at_some (λ player. first_refused (dealing_of round me) (of_epoch c.parts-2.result.now.number store.dealings) ≡ None) c.in_ok-create_player_with_logs.field-0 _ w.in-Some.is
          c.in_ok-create_player_with_logs.ensures.passes)))
    ]
