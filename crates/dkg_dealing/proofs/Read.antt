-- A message was heard as what it is.
use Rattle.std.proofs.Common.{◌≡◌, ℕ, List, Some, Ok, sym, ◌∙◌, ap, subst}
use Rattle.std.specs.Result.{result_ok}
use Rattle.dkg_values.specs.Codec.{whole}
use Rattle.dkg_ceremony.specs.declared.round.RoundParts.{RoundParts as Round}
use Rattle.dkg_fence.specs.Readiness.{Readiness}
use Rattle.dkg_journal.specs.Names.{Files}
use Rattle.dkg_infos.specs.declared.entry.Entry.{Entry}
use Rattle.dkg_types.specs.MessageCodes.{message_at}
use Rattle.dkg_infos.specs.declared.fault.Fault.{Fault}
use Rattle.dkg_types.specs.declared.message.Message.{Message as Channel}
use Rattle.dkg_store.specs.Acts.{Ended, Moment}
use Rattle.dkg_core.specs.Courses.{Course, on_devices}
use Rattle.dkg_core.specs.Dealing as dealing
use Rattle.dkg_core.specs.Fixed.{Fixed}
use Rattle.dkg_core.specs.Live.{Live}
use Rattle.dkg_life.specs.declared.life.Life.{Life}
use Rattle.dkg_life.specs.Heard.{round_dealt}
use Rattle.dkg_life.specs.Made.{MakesAt, Tells}
use Rattle.dkg_life.specs.LiveOf.{Beside, live_of}
use Rattle.dkg_dealing.proofs.Reading.{Reads, reads_it, reads_message}

module _ {Dir : Type 0} (c : Fixed Dir) (from : ℕ) (bytes : List ℕ) (beside : Beside Dir) (fence : Readiness) (life : Life Dir) (epoch : ℕ) (dealt : round_dealt life ≡ Some epoch)
    (message : Channel) (limit : ℕ) (same : c.limit ≡ limit) (is : result_ok (whole (message_at limit bytes)) ≡ Some message)
  where
    abbrev read_in : Round → Course Dir Fault (Live Dir)
    read_in round = dealing.reads c round from (live_of beside fence life) (Ok message)

    course_is : (reads : Reads c from bytes beside fence life (dealing.hears_peer c from bytes (live_of beside fence life))) → dealing.hears_peer c from bytes (live_of beside fence life) ≡ read_in reads.round
    course_is reads =
        reads.is
        ∙ ap (λ (n : ℕ). dealing.reads c reads.round from (live_of beside fence life) (whole (message_at n bytes))) same
        ∙ reads_message c from bytes beside fence life reads.round (whole (message_at limit bytes)) message is

    pub message_heard : {how : Ended Fault (Live Dir)} {files files_now : Files} {image now : Files → Type 0} {old new : Moment}
        → ((round : Round) → life.round ≡ Some round → MakesAt (on_devices (read_in round)) how files image files_now now old new)
        → MakesAt (on_devices (dealing.hears_peer c from bytes (live_of beside fence life))) how files image files_now now old new
    message_heard {how} {files} {files_now} {image} {now} {old} {new} made =
        let reads = reads_it c from bytes beside fence life epoch dealt in
        subst (λ (x : Course Dir Fault (Live Dir)). MakesAt (on_devices x) how files image files_now now old new) (sym (course_is reads)) (made reads.round reads.has)

    pub message_told : {how : Ended Fault (Live Dir)} {out now : List Entry} → ((round : Round) → life.round ≡ Some round → Tells (read_in round) how out now)
        → Tells (dealing.hears_peer c from bytes (live_of beside fence life)) how out now
    message_told {how} {out} {now} told =
        let reads = reads_it c from bytes beside fence life epoch dealt in
        subst (λ (x : Course Dir Fault (Live Dir)). Tells x how out now) (sym (course_is reads)) (told reads.round reads.has)

-- the same bytes, as a slice of them
pub heard_bytes : {Dir : Type 0} (c : Fixed Dir) (from : ℕ) (its bytes : List ℕ) (st : Live Dir) → its ≡ bytes → {how : Ended Fault (Live Dir)} {files files_now : Files} {image now : Files → Type 0} {old new : Moment}
    → MakesAt (on_devices (dealing.hears_peer c from its st)) how files image files_now now old new → MakesAt (on_devices (dealing.hears_peer c from bytes st)) how files image files_now now old new
heard_bytes c from its bytes st same {how} {files} {files_now} {image} {now} {old} {new} made =
    subst (λ (b : List ℕ). MakesAt (on_devices (dealing.hears_peer c from b st)) how files image files_now now old new) same made

pub heard_told : {Dir : Type 0} (c : Fixed Dir) (from : ℕ) (its bytes : List ℕ) (st : Live Dir) → its ≡ bytes → {how : Ended Fault (Live Dir)} {out now : List Entry}
    → Tells (dealing.hears_peer c from its st) how out now → Tells (dealing.hears_peer c from bytes st) how out now
heard_told c from its bytes st same {how} {out} {now} told = subst (λ (b : List ℕ). Tells (dealing.hears_peer c from b st) how out now) same told
