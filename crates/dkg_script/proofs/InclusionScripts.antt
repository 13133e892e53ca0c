-- Scripts of the form of inclusion and others that just miss it, what their requests are fed, and what the provider has to say.
use Rattle.std.proofs.Common.{ℕ, ◌<◌, ◌^◌, List, [], ◌∷◌, ◌≡◌, refl, Option, Some, None, true, false, lit<, lit≤, arith}
use Rattle.std.specs.Prelude.{slice_get, IsSome}
use Rattle.std.specs.List.{AllByRecursion}
use Rattle.dkg_values.specs.Bytes.{byte_at}
use Rattle.dkg_values.specs.Codec.{many_at}
use Rattle.dkg_values.specs.Lists.{keys_at}
use Rattle.dkg_values.specs.Uint.{groups_at}
use Rattle.dkg_ceremony.specs.Modes.{mode_at}
use Rattle.dkg_infos.specs.InfoCodes.{info_output_at, parts_at}
use Rattle.dkg_infos.specs.OutcomeCodes.{outcome_after}
use Rattle.dkg_types.specs.PayloadCodes.{payload_info_at, payload_after}
use Rattle.dkg_text.specs.declared.script.BlockLine.{BlockLine}
use Rattle.dkg_text.specs.declared.script.Event.{Event}
use Rattle.dkg_text.specs.declared.script.Event.TheVariants.{Peer, Final, Next, Release, Info, Feed, Over, Cancel, Work, Prepare}
use Rattle.dkg_text.specs.declared.script.Life.{Life}
use Rattle.dkg_text.specs.declared.script.PlayerLine.{PlayerLine}
use Rattle.dkg_text.specs.declared.script.Script.{Script}
use Rattle.dkg_text.specs.declared.script.SyncLine.{SyncLine}
use Rattle.dkg_script.specs.Asked.{AskAnew, fed_by, fed_to}
use Rattle.dkg_script.specs.InForm.{is_in_form}
use Rattle.dkg_script.specs.Epochs.{IsBlockIn, IsFormOfEpochs}
use Rattle.dkg_script.specs.Inclusion.{IsEventIn, IsFormOfInclusion, IsLifeIn}
use Rattle.dkg_script.specs.Players.{players_at}
use Rattle.dkg_script.specs.Position.{awaited_height_after}
use Rattle.dkg_script.proofs.Formed.{holds_at}
use Rattle.dkg_script.proofs.Rounds.{keys}
use Rattle.dkg_script.proofs.Worked.{script_of, genesis, life_of, line, dealt}

apart : false ≡ true → ⊥
apart e = cc

apart_too : true ≡ false → ⊥
apart_too e = cc

-- THE FORM

abbrev two_blocks : List BlockLine
two_blocks = genesis ∷ line 1 (Some 0) None ∷ []

-- one life with these events
abbrev with_events : List Event → Script
with_events events = script_of 8 (lit< tt) two_blocks (life_of events None ∷ [])

genesis_is_read : (events : List Event) → IsBlockIn (with_events events) genesis
unfolding payload_after payload_info_at parts_at info_output_at outcome_after mode_at byte_at many_at keys_at groups_at
genesis_is_read events = refl

form_of : (events : List Event) → AllByRecursion (IsEventIn two_blocks) events → AskAnew events → IsFormOfInclusion (with_events events)
form_of events all anew = record {
  plain = refl;
  reshares = refl;
  own = lit< tt;
  in_bound = lit≤ tt;
  short = lit< tt;
  rising = refl;
  blocks = (genesis_is_read events, (tt, tt));
  placed = (lit< tt, (lit< tt, tt));
  lives = λ l life is.
      holds_at (IsLifeIn (with_events events)) (life_of events None ∷ []) l life (record { anchor = tt; no_sync = refl; events = all; anew = anew }, tt) is;
}

-- each kind of event that is run
abbrev asking : List Event
asking =
    Peer 2 dealt ∷ Final 0 ∷ Next 1 5 ∷ Release 5 ∷ Next 1 5 ∷ Info 2 ∷ Feed 2 1 ∷ Feed 2 0 ∷ Over 2 ∷ Info 3 ∷ Cancel 3 ∷ Work ∷ []

pub asking_is_of_inclusion : IsFormOfInclusion (with_events asking)
asking_is_of_inclusion =
    form_of asking (lit< tt, (refl, (tt, (tt, (tt, (tt, (refl, (refl, (tt, (tt, (tt, (tt, tt))))))))))))
    (tt, (tt, (tt, (tt, (tt, (refl, (tt, (tt, (tt, (refl, (tt, (tt, tt))))))))))))

pub asking_is_in_form : is_in_form (with_events asking) ≡ true
unfolding is_in_form
asking_is_in_form = refl

-- of a script of the form, its one life
its_life : (events : List Event) → IsFormOfInclusion (with_events events) → IsLifeIn (with_events events) (life_of events None)
its_life events form = form.lives 0 (life_of events None) refl

-- ANOTHER KIND OF EVENT: a call of the application
pub no_application : IsFormOfInclusion (with_events (Prepare [] ∷ [])) → ⊥
no_application form = (its_life (Prepare [] ∷ []) form).events.0

pub application_not_in_form : is_in_form (with_events (Prepare [] ∷ [])) ≡ false
unfolding is_in_form
application_not_in_form = refl

-- A FEED OF A BLOCK that isn't there
no_line : (o : Option BlockLine) → o ≡ None → IsSome o → ⊥
no_line None is there = absurd cc
no_line (Some line) is there = absurd cc

pub no_such_block : IsFormOfInclusion (with_events (Info 1 ∷ Feed 1 2 ∷ [])) → ⊥
no_such_block form = no_line (slice_get two_blocks 2) refl (its_life (Info 1 ∷ Feed 1 2 ∷ []) form).events.1.0

pub such_not_in_form : is_in_form (with_events (Info 1 ∷ Feed 1 2 ∷ [])) ≡ false
unfolding is_in_form
such_not_in_form = refl

-- A KEY of more than 32 bits
not_itself : (n : ℕ) → n < n → ⊥
not_itself n below = omega arith

pub no_such_key : IsFormOfInclusion (with_events (Peer (2 ^ 32) dealt ∷ [])) → ⊥
no_such_key form = not_itself (2 ^ 32) (its_life (Peer (2 ^ 32) dealt ∷ []) form).events.0

-- A NUMBER THAT IS TAKEN, by an info, also one that is answered or cancelled, or by a log: no info is asked for by it
pub asked_twice : IsFormOfInclusion (with_events (Info 1 ∷ Cancel 1 ∷ Info 1 ∷ [])) → ⊥
asked_twice form = apart_too (its_life (Info 1 ∷ Cancel 1 ∷ Info 1 ∷ []) form).anew.1.1.0

pub asked_as_a_log : IsFormOfInclusion (with_events (Next 1 5 ∷ Info 1 ∷ [])) → ⊥
asked_as_a_log form = apart_too (its_life (Next 1 5 ∷ Info 1 ∷ []) form).anew.1.0

-- .. a log may be
pub log_as_an_info : IsFormOfInclusion (with_events (Info 1 ∷ Next 1 5 ∷ []))
log_as_an_info = form_of (Info 1 ∷ Next 1 5 ∷ []) (tt, (tt, tt)) (refl, (tt, tt))

-- MATERIAL of a state sync
abbrev sync : SyncLine
sync = record { info = []; epoch = 0; view = 0; block = 0 }

abbrev synced : Life
synced = record (life_of [] None) { sync = Some sync }

some_sync : Some sync ≡ None → ⊥
some_sync e = cc

pub no_material : IsFormOfInclusion (script_of 8 (lit< tt) two_blocks (synced ∷ [])) → ⊥
no_material form = some_sync (form.lives 0 synced refl).no_sync

-- PLAYERS whose epochs don't rise
abbrev with_players : List PlayerLine → Script
with_players lines = let plain = with_events [] in record plain { config = record plain.config { players = lines } }

pub not_rising : IsFormOfInclusion (with_players (record { epoch = 3; players = keys } ∷ record { epoch = 3; players = keys } ∷ [])) → ⊥
not_rising form = apart form.rising

-- what an epoch's line says, and that an epoch without one has nobody
pub players_of_three : players_at (record { epoch = 2; players = [] } ∷ record { epoch = 3; players = keys } ∷ []) 3 ≡ keys
players_of_three = refl

pub players_of_four : players_at (record { epoch = 2; players = [] } ∷ record { epoch = 3; players = keys } ∷ []) 4 ≡ []
players_of_four = refl

-- A BLOCK FROM ITS EPOCH'S MIDPOINT ON, of an epoch that the life takes part in: the form of epochs has none
abbrev into_inclusion : Life
into_inclusion = life_of (Final 0 ∷ Final 1 ∷ []) None

abbrev including : Script
including = script_of 2 (lit< tt) two_blocks (into_inclusion ∷ [])

pub includes : IsFormOfEpochs including → ⊥
unfolding awaited_height_after
includes form = apart ((form.lives 0 into_inclusion refl).takes 1 1 _ refl tt refl (lit≤ tt) refl)

including_is_read : IsBlockIn including genesis
unfolding payload_after payload_info_at parts_at info_output_at outcome_after mode_at byte_at many_at keys_at groups_at
including_is_read = refl

pub including_is_of_inclusion : IsFormOfInclusion including
including_is_of_inclusion = record {
  plain = refl;
  reshares = refl;
  own = lit< tt;
  in_bound = lit≤ tt;
  short = lit< tt;
  rising = refl;
  blocks = (including_is_read, (tt, tt));
  placed = (lit< tt, (lit< tt, tt));
  lives = λ l life is. holds_at (IsLifeIn including) (into_inclusion ∷ []) l life (record { anchor = tt; no_sync = refl; events = (refl, (refl, tt)); anew = (tt, (tt, tt)) }, tt) is;
}

-- WHAT A REQUEST IS FED

pub fed_both : fed_by (life_of asking None) 2 12 ≡ 1 ∷ 0 ∷ []
fed_both = refl

-- so far
pub fed_one : fed_by (life_of asking None) 2 7 ≡ 1 ∷ []
fed_one = refl

-- nothing before it is asked, behind its end, or once it is cancelled, and nothing of another's
pub fed_before : fed_to 2 (Feed 2 1 ∷ Info 2 ∷ Feed 2 0 ∷ []) ≡ 0 ∷ []
fed_before = refl

pub fed_behind : fed_to 2 (Info 2 ∷ Feed 2 1 ∷ Over 2 ∷ Feed 2 0 ∷ []) ≡ 1 ∷ []
fed_behind = refl

pub fed_cancelled : fed_to 2 (Info 2 ∷ Feed 2 1 ∷ Cancel 2 ∷ Feed 2 0 ∷ []) ≡ 1 ∷ []
fed_cancelled = refl

pub fed_other : fed_to 3 asking ≡ []
fed_other = refl
