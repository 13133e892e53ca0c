use Rattle.std.proofs.Common.{ap, sym, ◌∙◌}
use Rattle.std.specs.Option.{option_copied}
use Rattle.dkg_journal.specs.Places.{place_at}
use Rattle.dkg_journal.proofs.OnResult.{on_ok, either_way}
use Rattle.dkg_journal.proofs.Room.{room_made, room_places}
use Rattle.dkg_journal.proofs.journal.Journal.make_room.Goals as goal

pub returns-in-None-clause-room : goal.returns-in-None-clause-room
returns-in-None-clause-room c = on_ok c.insert.result (λ done. room_made c.args.self.now.places _ c.args.section done) c.insert.ensures.done

pub returns-in-None-clause-places : goal.returns-in-None-clause-places
returns-in-None-clause-places c = λ s. either_way c.insert.result
    (λ done. room_places c.args.self.now.places _ c.args.section (sym (ap option_copied (sym c.in-None.is) ∙ c.get.ensures)) done s)
    (λ kept. ap (λ m. place_at m s) kept) c.insert.ensures.done c.insert.ensures.kept
