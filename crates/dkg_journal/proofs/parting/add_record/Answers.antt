use Rattle.std.proofs.Common.{◌≡◌, ◌++◌, List, ℕ, sym, ◌∙◌, ap}
use Rattle.std.specs.FinMap as map
use Rattle.dkg_journal.specs.Records.{record_of}
use Rattle.dkg_journal.specs.Segments.{Segments, piece}
use Rattle.dkg_journal.proofs.Map.{put_back}
use Rattle.dkg_journal.proofs.OnResult.{on_ok}
use Rattle.dkg_journal.proofs.parting.add_record.Goals as goal
use Rattle.dkg_journal.proofs.parting.add_record.Goals.{in-Some, in-None}

pub returns : goal.returns
returns c =
    let was : c.match-take.records ≡ piece (map.get c.args.segments.now c.args.section) = elim c.match-take.branch [
      | in-Some w ↦ w.records-is ∙ ap piece (sym w.in-Some.is ∙ c.take.ensures.value)
      | in-None w ↦ w.records-is ∙ w.new-records.ensures ∙ ap piece (sym w.in-None.is ∙ c.take.ensures.value)
    ] in
    on_ok c.insert.result (λ done.
    done ∙ ap (λ (m : Segments). map.insert m c.args.section c.push.new.self) c.take.ensures.gone ∙ put_back c.args.segments.now c.args.section c.push.new.self
    ∙ ap (λ (b : List ℕ). map.insert c.args.segments.now c.args.section b) (c.in_ok-push.ensures ∙ ap (λ (b : List ℕ). b ++ record_of c.args.body.now) was)) c.insert.ensures.done
