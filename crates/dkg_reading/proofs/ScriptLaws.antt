-- A whole script and its text.
use Rattle.std.proofs.Common.{◌≡◌, ℕ, ◌<◌, ◌≤◌, ◌^◌, Bool, false, List, [], ◌∷◌, ◌++◌, length, is_some, Option, Some, Result, Ok, Err, refl, sym, ap, subst, ◌∙◌, append_assoc, length-append, arith}
use Rattle.std.specs.Prelude.{codes}
use Rattle.std.specs.Int.NonZero.{non_zero_u32_get, non_zero_u64_get}
use Rattle.std.specs.List.{flat_map}
use Rattle.std.specs.Result.{result_ok}
use Rattle.std.specs.Str.{bytes_eq}
use Rattle.hex.specs.Hex.{IsBytes}
use Rattle.dkg_types.specs.declared.addresses.Address.{Address}
use Rattle.dkg_reading.specs.declared.config_lines.Opening.{Opening}
use Rattle.dkg_text.specs.declared.script.Anchor.{Anchor}
use Rattle.dkg_text.specs.declared.script.BlockLine.{BlockLine}
use Rattle.dkg_text.specs.declared.script.Cut.{Cut}
use Rattle.dkg_text.specs.declared.script.Event.{Event}
use Rattle.dkg_text.specs.declared.script.Life.{Life}
use Rattle.dkg_text.specs.declared.script.PlayerLine.{PlayerLine}
use Rattle.dkg_text.specs.declared.script.ProbeLine.{ProbeLine}
use Rattle.dkg_text.specs.declared.script.Script.{Script}
use Rattle.dkg_text.specs.declared.script.ScriptConfig.{ScriptConfig}
use Rattle.dkg_text.specs.declared.script.SyncLine.{SyncLine}
use Rattle.dkg_reading.specs.Allowed.{Is32, Is64, IsAddressLine, IsBlockLine, IsConfig, IsEventAfter, IsKeys, IsLife, IsOpening, IsPlayerLine, IsProbeLine, IsScript}
use Rattle.dkg_text.specs.Fields.{bytes_field, number_field}
use Rattle.dkg_reading.specs.Grammar.{address_line_at, anchor_line_at, block_line_at, blocks_at, config_at, cut_at, end_at, event_line_at, event_lines_at, held_line_at, is_eventful, life_lines_at, limit_from, lives_at, nothing_left, opening_at, players_line_at, probe_at, reading_of, script_of, sync_at, version_one}
use Rattle.dkg_reading.specs.Laws.{IsReadAgain, IsWrittenAgain}
use Rattle.dkg_reading.specs.Lines.{begins, checked_line_at, line_at, many_lines_at, maybe_at}
use Rattle.dkg_reading.specs.Positive.{positive_64}
use Rattle.dkg_reading.specs.Rows.{bytes_of, field, mode_of, no_fields, number_below, decimal_of, set_row, two, version_of}
use Rattle.dkg_reading.specs.Spells.{FitAfter, IsLine}
use Rattle.dkg_text.specs.Writing.{address_fields, address_line, bytes_or_dash, anchor_line, block_line, config_text, cut_line, with_line_feed, event_line, held_line, life_text, number_or_dash, numbers_fields, oneshot_line, opening_text, players_line, probe_line, sync_line, text_of, text_or_none}
use Rattle.dkg_reading.proofs.ConfigLaws.{address_named, addresses_law, blocks_law as per_epoch_law, limit_law, me_law, modes_law, modes_line, oneshot_law, oneshot_named, plain_name, players_law, players_named, probe_named, probes_law, space_law, version_law}
use Rattle.dkg_reading.proofs.EventLaws.{IsNoEarlier, eventless, events_law, goes_on, line_long, long, no_earlier, of_among}
use Rattle.dkg_reading.proofs.Guards.{bind_is, bind_ok, ok_is, some_is}
use Rattle.dkg_reading.proofs.LifeLaws.{anchor_again, anchor_found, block_named, blocks_law, cut_again, cut_among, cut_found, held_again, held_found, held_keeps, number_line_law, number_line_named, sync_again, sync_found, sync_keeps}
use Rattle.dkg_reading.proofs.LineLaws.{HasName, IsAmong, begins_so, here, later, line_law, line_named, many_again, many_among, many_found, maybe_again, maybe_among, maybe_found, not_begun, read_is}
use Rattle.dkg_reading.proofs.RowLaws.{nothing_law}

-- TEXTS, REGROUPED

three : (a b c rest : List ℕ) → (a ++ (b ++ c)) ++ rest ≡ a ++ (b ++ (c ++ rest))
three a b c rest = append_assoc a (b ++ c) rest ∙ ap (λ (t : List ℕ). a ++ t) (append_assoc b c rest)

five : (a b c d e rest : List ℕ) → (a ++ (b ++ (c ++ (d ++ e)))) ++ rest ≡ a ++ (b ++ (c ++ (d ++ (e ++ rest))))
five a b c d e rest = append_assoc a (b ++ (c ++ (d ++ e))) rest ∙ ap (λ (t : List ℕ). a ++ t) (append_assoc b (c ++ (d ++ e)) rest ∙ ap (λ (t : List ℕ). b ++ t) (three c d e rest))

six : (a b c d e f rest : List ℕ) → ((a ++ (b ++ c)) ++ (d ++ (e ++ f))) ++ rest ≡ a ++ (b ++ (c ++ (d ++ (e ++ (f ++ rest)))))
six a b c d e f rest =
    append_assoc (a ++ (b ++ c)) (d ++ (e ++ f)) rest ∙ (ap (λ (t : List ℕ). (a ++ (b ++ c)) ++ t) (three d e f rest) ∙ three a b c (d ++ (e ++ (f ++ rest))))

seven : (a b c d e f g rest : List ℕ) → (a ++ (b ++ (c ++ (d ++ (e ++ (f ++ g)))))) ++ rest ≡ a ++ (b ++ (c ++ (d ++ (e ++ (f ++ (g ++ rest))))))
seven a b c d e f g rest = append_assoc a (b ++ (c ++ (d ++ (e ++ (f ++ g))))) rest ∙ ap (λ (t : List ℕ). a ++ t) (append_assoc b (c ++ (d ++ (e ++ (f ++ g)))) rest ∙ ap (λ (t : List ℕ). b ++ t) (five c d e f g rest))

front : (a t u v : List ℕ) → t ≡ a ++ u → u ≡ v → t ≡ a ++ v
front a t u v is then_is = is ∙ ap (λ (x : List ℕ). a ++ x) then_is

-- THE LINES THAT EVERY SCRIPT HAS

pub record FitsOpening (o : Opening) : Type 0 where
  pub me : Is32 o.me
  pub blocks : Is64 (non_zero_u64_get o.blocks_per_epoch)
  pub limit : non_zero_u32_get o.limit ≤ 2 ^ 30
  pub version : o.modes.1.0 < 2
  pub namespace : IsBytes o.namespace

abbrev pub dkg_line : List ℕ
dkg_line = with_line_feed (codes "dkg" ++ number_field 1)

abbrev pub me_line : Opening → List ℕ
me_line o = with_line_feed (codes "me" ++ number_field o.me)

abbrev pub blocks_line : Opening → List ℕ
blocks_line o = with_line_feed (codes "blocks" ++ number_field (non_zero_u64_get o.blocks_per_epoch))

abbrev pub limit_line : Opening → List ℕ
limit_line o = with_line_feed (codes "limit" ++ number_field (non_zero_u32_get o.limit))

abbrev pub space_line : Opening → List ℕ
space_line o = with_line_feed (codes "space" ++ bytes_field o.namespace)

abbrev pub lines_of : Opening → List ℕ
lines_of o = (dkg_line ++ (me_line o ++ blocks_line o)) ++ (limit_line o ++ (modes_line o.modes ++ space_line o))

pub opening_found : (text : List ℕ) (o : Opening) (rest : List ℕ) → opening_at text ≡ Ok (o, rest) → FitsOpening o × (text ≡ lines_of o ++ rest)
unfolding opening_at
opening_found text o rest e =
    let v = bind_ok (checked_line_at (codes "dkg") (field decimal_of) version_one text) _ (o, rest) e in
    let m = bind_ok (line_at (codes "me") (field (number_below (2 ^ 32))) v.0.1) _ (o, rest) v.2 in
    let b = bind_ok (checked_line_at (codes "blocks") (field decimal_of) positive_64 m.0.1) _ (o, rest) m.2 in
    let l = bind_ok (checked_line_at (codes "limit") (field (number_below (2 ^ 32))) limit_from b.0.1) _ (o, rest) b.2 in
    let d = bind_ok (line_at (codes "mode") (two mode_of version_of) l.0.1) _ (o, rest) l.2 in
    let s = bind_ok (line_at (codes "space") (field bytes_of) d.0.1) _ (o, rest) d.2 in
    let fv = version_law.found text v.0.0 v.0.1 v.1 in
    let fm = me_law.found v.0.1 m.0.0 m.0.1 m.1 in
    let fb = per_epoch_law.found m.0.1 b.0.0 b.0.1 b.1 in
    let fl = limit_law.found b.0.1 l.0.0 l.0.1 l.1 in
    let fd = modes_law.found l.0.1 d.0.0 d.0.1 d.1 in
    let fs = space_law.found d.0.1 s.0.0 s.0.1 s.1 in
    let made : Opening = record { me = m.0.0; blocks_per_epoch = b.0.0; limit = l.0.0; modes = d.0.0; namespace = s.0.0 } in
    let fits : FitsOpening made = record { me = fm.0; blocks = fb.0; limit = fl.0; version = fd.0.1; namespace = fs.0 } in
    let long : text ≡ dkg_line ++ (me_line made ++ (blocks_line made ++ (limit_line made ++ (modes_line made.modes ++ (space_line made ++ s.0.1))))) =
    front dkg_line text v.0.1 _ fv.1 (front (me_line made) v.0.1 m.0.1 _ fm.1 (front (blocks_line made) m.0.1 b.0.1 _ fb.1 (front (limit_line made) b.0.1 l.0.1 _ fl.1 (front (modes_line made.modes) l.0.1 d.0.1 _ fd.1 fs.1)))) in
    let is : text ≡ lines_of made ++ s.0.1 = long ∙ sym (six dkg_line (me_line made) (blocks_line made) (limit_line made) (modes_line made.modes) (space_line made) s.0.1) in
    read_is (λ (p : Opening) (r : List ℕ). FitsOpening p × (text ≡ lines_of p ++ r)) made o s.0.1 rest s.2 (fits, is)

opening_read : (o : Opening) (rest : List ℕ) → FitsOpening o → opening_at (dkg_line ++ (me_line o ++ (blocks_line o ++ (limit_line o ++ (modes_line o.modes ++ (space_line o ++ rest)))))) ≡ Ok (o, rest)
unfolding opening_at
opening_read o rest fit =
    bind_is _ _ _ _ (version_law.again tt (me_line o ++ (blocks_line o ++ (limit_line o ++ (modes_line o.modes ++ (space_line o ++ rest))))) tt)
    (bind_is _ _ _ _ (me_law.again o.me (blocks_line o ++ (limit_line o ++ (modes_line o.modes ++ (space_line o ++ rest)))) fit.me)
    (bind_is _ _ _ _ (per_epoch_law.again o.blocks_per_epoch (limit_line o ++ (modes_line o.modes ++ (space_line o ++ rest))) fit.blocks)
    (bind_is _ _ _ _ (limit_law.again o.limit (modes_line o.modes ++ (space_line o ++ rest)) fit.limit)
    (bind_is _ _ _ _ (modes_law.again o.modes (space_line o ++ rest) (tt, fit.version))
    (bind_is _ _ _ _ (space_law.again o.namespace rest fit.namespace) refl)))))

opening_again : (o : Opening) (rest : List ℕ) → FitsOpening o → opening_at (lines_of o ++ rest) ≡ Ok (o, rest)
opening_again o rest fit = ap opening_at (six dkg_line (me_line o) (blocks_line o) (limit_line o) (modes_line o.modes) (space_line o) rest) ∙ opening_read o rest fit

-- THE CONFIGURATION

abbrev pub oneshot_text : Option (List ℕ) → List ℕ
oneshot_text o = text_or_none oneshot_line o

abbrev pub players_text : List PlayerLine → List ℕ
players_text xs = flat_map players_line xs

abbrev pub addresses_text : List (ℕ × Address) → List ℕ
addresses_text xs = flat_map address_line xs

abbrev pub probe_text : Option ProbeLine → List ℕ
probe_text o = text_or_none probe_line o

pub config_found : (addressed : Bool) (text : List ℕ) (config : ScriptConfig) (rest : List ℕ) → config_at addressed text ≡ Ok (config, rest) → IsConfig addressed config × (text ≡ config_text config ++ rest)
unfolding config_at
config_found addressed text config rest e =
    let o = bind_ok (opening_at text) _ (config, rest) e in
    let n = bind_ok (maybe_at (codes "oneshot") (line_at (codes "oneshot") set_row) o.0.1) _ (config, rest) o.2 in
    let p = bind_ok (many_lines_at (begins (codes "players")) players_line_at n.0.1) _ (config, rest) n.2 in
    let a = bind_ok (many_lines_at (begins (codes "address")) address_line_at p.0.1) _ (config, rest) p.2 in
    let r = bind_ok (maybe_at (codes "probe") (probe_at addressed) a.0.1) _ (config, rest) a.2 in
    let fo = opening_found text o.0.0 o.0.1 o.1 in
    let fn = maybe_found (codes "oneshot") IsKeys oneshot_line (line_at (codes "oneshot") set_row) oneshot_law o.0.1 n.0.0 n.0.1 n.1 in
    let fp = many_found (begins (codes "players")) IsPlayerLine players_line players_line_at players_law n.0.1 p.0.0 p.0.1 p.1 in
    let fa = many_found (begins (codes "address")) IsAddressLine address_line address_line_at addresses_law p.0.1 a.0.0 a.0.1 a.1 in
    let fr = maybe_found (codes "probe") (IsProbeLine addressed) probe_line (probe_at addressed) (probes_law addressed) a.0.1 r.0.0 r.0.1 r.1 in
    let made : ScriptConfig = record {
      me = o.0.0.me;
      blocks_per_epoch = o.0.0.blocks_per_epoch;
      limit = o.0.0.limit;
      mode = o.0.0.modes.0;
      max_mode = o.0.0.modes.1;
      namespace = o.0.0.namespace;
      oneshot = n.0.0;
      players = p.0.0;
      addresses = a.0.0;
      probe = r.0.0;
    } in
    let opening : IsOpening made = record { me = fo.0.me; blocks_per_epoch = fo.0.blocks; limit = fo.0.limit; version = fo.0.version; namespace = fo.0.namespace } in
    let fits : IsConfig addressed made = record { opening = opening; oneshot = fn.0; players = fp.0; addresses = fa.0; probe = fr.0 } in
    let long : text ≡ opening_text made ++ (oneshot_text n.0.0 ++ (players_text p.0.0 ++ (addresses_text a.0.0 ++ (probe_text r.0.0 ++ r.0.1)))) =
    front (opening_text made) text o.0.1 _ fo.1 (front (oneshot_text n.0.0) o.0.1 n.0.1 _ fn.1 (front (players_text p.0.0) n.0.1 p.0.1 _ fp.1 (front (addresses_text a.0.0) p.0.1 a.0.1 _ fa.1 fr.1))) in
    let is : text ≡ config_text made ++ r.0.1 = long ∙ sym (five (opening_text made) (oneshot_text n.0.0) (players_text p.0.0) (addresses_text a.0.0) (probe_text r.0.0) r.0.1) in
    read_is (λ (c : ScriptConfig) (t : List ℕ). IsConfig addressed c × (text ≡ config_text c ++ t)) made config r.0.1 rest r.2 (fits, is)

-- what follows a configuration
abbrev pub after_config : List (List ℕ)
after_config = codes "block" ∷ codes "life" ∷ codes "end" ∷ []

abbrev after_addresses : List (List ℕ)
after_addresses = codes "probe" ∷ after_config

abbrev after_players : List (List ℕ)
after_players = codes "address" ∷ after_addresses

abbrev after_oneshot : List (List ℕ)
after_oneshot = codes "players" ∷ after_players

module _ (addressed : Bool) (config : ScriptConfig) (fit : IsConfig addressed config) (rest : List ℕ) (among : IsAmong after_config rest) where
  abbrev from_probe : List ℕ
  from_probe = probe_text config.probe ++ rest

  abbrev from_addresses : List ℕ
  from_addresses = addresses_text config.addresses ++ from_probe

  abbrev from_players : List ℕ
  from_players = players_text config.players ++ from_addresses

  probe_among : IsAmong after_addresses from_probe
  probe_among = maybe_among (codes "probe") (IsProbeLine addressed) probe_line (probe_at addressed) (probes_law addressed) after_config (probe_named addressed) config.probe rest fit.probe among

  addresses_among : IsAmong after_players from_addresses
  addresses_among =
      many_among (begins (codes "address")) IsAddressLine address_line address_line_at addresses_law after_players
      (λ done x more f. here (codes "address") after_addresses (address_line x ++ more) (address_named done x more f))
      [] config.addresses from_probe fit.addresses (later (codes "address") after_addresses from_probe probe_among)

  players_among : IsAmong after_oneshot from_players
  players_among =
      many_among (begins (codes "players")) IsPlayerLine players_line players_line_at players_law after_oneshot
      (λ done x more f. here (codes "players") after_players (players_line x ++ more) (players_named done x more f))
      [] config.players from_addresses fit.players (later (codes "players") after_players from_addresses addresses_among)

  config_read : config_at addressed (opening_text config ++ (oneshot_text config.oneshot ++ from_players)) ≡ Ok (config, rest)
  unfolding config_at
  config_read =
      let opening : Opening = record { me = config.me; blocks_per_epoch = config.blocks_per_epoch; limit = config.limit; modes = (config.mode, config.max_mode); namespace = config.namespace } in
      let fits : FitsOpening opening = record { me = fit.opening.me; blocks = fit.opening.blocks_per_epoch; limit = fit.opening.limit; version = fit.opening.version; namespace = fit.opening.namespace } in
      bind_is _ _ _ _ (opening_again opening (oneshot_text config.oneshot ++ from_players) fits)
      (bind_is _ _ _ _ (maybe_again (codes "oneshot") IsKeys oneshot_line (line_at (codes "oneshot") set_row) oneshot_law oneshot_named config.oneshot from_players fit.oneshot (not_begun (codes "oneshot") after_oneshot from_players players_among refl))
      (bind_is _ _ _ _ (many_again (begins (codes "players")) IsPlayerLine players_line players_line_at players_law (λ done x more f. begins_so (codes "players") (players_line x ++ more) (players_named done x more f)) (λ x. long (codes "players" ++ number_field x.epoch ++ numbers_fields x.players)) config.players from_addresses fit.players (not_begun (codes "players") after_players from_addresses addresses_among refl))
      (bind_is _ _ _ _ (many_again (begins (codes "address")) IsAddressLine address_line address_line_at addresses_law (λ done x more f. begins_so (codes "address") (address_line x ++ more) (address_named done x more f)) (λ x. long (codes "address" ++ number_field x.0 ++ address_fields x.1)) config.addresses from_probe fit.addresses (not_begun (codes "address") after_addresses from_probe probe_among refl))
      (bind_is _ _ _ _ (maybe_again (codes "probe") (IsProbeLine addressed) probe_line (probe_at addressed) (probes_law addressed) (probe_named addressed) config.probe rest fit.probe (not_begun (codes "probe") after_config rest among refl)) refl))))

  config_again : config_at addressed (config_text config ++ rest) ≡ Ok (config, rest)
  config_again = ap (config_at addressed) (five (opening_text config) (oneshot_text config.oneshot) (players_text config.players) (addresses_text config.addresses) (probe_text config.probe) rest) ∙ config_read

-- A LIFE

module _ (addressed : Bool) (config : ScriptConfig) (blocks : List BlockLine) where
  abbrev pub anchor_text : Option Anchor → List ℕ
  anchor_text o = text_or_none anchor_line o

  abbrev pub sync_text : Option SyncLine → List ℕ
  sync_text o = text_or_none sync_line o

  abbrev pub events_text : List Event → List ℕ
  events_text xs = flat_map event_line xs

  abbrev pub cut_text : Option Cut → List ℕ
  cut_text o = text_or_none cut_line o

  abbrev pub word_line : ℕ → List ℕ
  word_line n = with_line_feed (codes "life" ++ number_field n)

  abbrev pub stop_line : ℕ → List ℕ
  stop_line n = with_line_feed (codes "stop" ++ number_field n)

  life_found : (text : List ℕ) (life : Life) (rest : List ℕ) → life_lines_at addressed config blocks text ≡ Ok (life, rest) → IsLife addressed config blocks life × (text ≡ life_text life ++ rest)
  unfolding life_lines_at event_lines_at
  life_found text life rest e =
      let w = bind_ok (line_at (codes "life") (field decimal_of) text) _ (life, rest) e in
      let a = bind_ok (anchor_line_at blocks w.0.1) _ (life, rest) w.2 in
      let h = bind_ok (held_line_at (length blocks) a.0.1) _ (life, rest) a.2 in
      let s = bind_ok (sync_at addressed (is_some config.oneshot) (length blocks) h.0.1) _ (life, rest) h.2 in
      let v = bind_ok (many_lines_at is_eventful (event_line_at (length blocks) (is_some config.probe)) s.0.1) _ (life, rest) s.2 in
      let c = bind_ok (cut_at (length v.0.0) v.0.1) _ (life, rest) v.2 in
      let p = bind_ok (line_at (codes "stop") (field decimal_of) c.0.1) _ (life, rest) c.2 in
      let fw = (number_line_law (codes "life") refl).found text w.0.0 w.0.1 w.1 in
      let fa = anchor_found blocks w.0.1 a.0.0 a.0.1 a.1 in
      let fh = held_found (length blocks) a.0.1 h.0.0 h.0.1 h.1 in
      let fs = sync_found addressed (length blocks) (is_some config.oneshot) h.0.1 s.0.0 s.0.1 s.1 in
      let fv = many_found is_eventful (IsEventAfter (length blocks) (is_some config.probe)) event_line (event_line_at (length blocks) (is_some config.probe)) (events_law (length blocks) (is_some config.probe)) s.0.1 v.0.0 v.0.1 v.1 in
      let fc = cut_found (length v.0.0) v.0.1 c.0.0 c.0.1 c.1 in
      let fp = (number_line_law (codes "stop") refl).found c.0.1 p.0.0 p.0.1 p.1 in
      let made : Life = record { word = w.0.0; anchor = a.0.0; held = h.0.0; sync = s.0.0; events = v.0.0; cut = c.0.0; pick = p.0.0 } in
      let fits : IsLife addressed config blocks made = record { word = fw.0; anchor = fa.0; held = fh.0; sync = fs.0; events = fv.0; cut = fc.0; pick = fp.0 } in
      let long : text ≡ word_line w.0.0 ++ (anchor_text a.0.0 ++ (held_line h.0.0 ++ (sync_text s.0.0 ++ (events_text v.0.0 ++ (cut_text c.0.0 ++ (stop_line p.0.0 ++ p.0.1)))))) =
      front (word_line w.0.0) text w.0.1 _ fw.1 (front (anchor_text a.0.0) w.0.1 a.0.1 _ fa.1 (front (held_line h.0.0) a.0.1 h.0.1 _ fh.1 (front (sync_text s.0.0) h.0.1 s.0.1 _ fs.1 (front (events_text v.0.0) s.0.1 v.0.1 _ fv.1 (front (cut_text c.0.0) v.0.1 c.0.1 _ fc.1 fp.1))))) in
      let is : text ≡ life_text made ++ p.0.1 = long ∙ sym (seven (word_line w.0.0) (anchor_text a.0.0) (held_line h.0.0) (sync_text s.0.0) (events_text v.0.0) (cut_text c.0.0) (stop_line p.0.0) p.0.1) in
      read_is (λ (l : Life) (t : List ℕ). IsLife addressed config blocks l × (text ≡ life_text l ++ t)) made life p.0.1 rest p.2 (fits, is)

  module _ (life : Life) (rest : List ℕ) (fit : IsLife addressed config blocks life) where
    abbrev from_stop : List ℕ
    from_stop = stop_line life.pick ++ rest

    abbrev from_cut : List ℕ
    from_cut = cut_text life.cut ++ from_stop

    abbrev from_events : List ℕ
    from_events = events_text life.events ++ from_cut

    abbrev from_sync : List ℕ
    from_sync = sync_text life.sync ++ from_events

    abbrev from_held : List ℕ
    from_held = held_line life.held ++ from_sync

    abbrev after_events : List (List ℕ)
    after_events = codes "cut" ∷ codes "stop" ∷ []

    stop_named : HasName (codes "stop") from_stop
    stop_named = number_line_named (codes "stop") refl life.pick rest fit.pick

    cut_is_among : IsAmong after_events from_cut
    cut_is_among = cut_among (length life.events) (codes "stop" ∷ []) life.cut from_stop fit.cut (here (codes "stop") [] from_stop stop_named)

    no_cut_at_stop : begins (codes "cut") from_stop ≡ false
    no_cut_at_stop = not_begun (codes "cut") (codes "stop" ∷ []) from_stop (here (codes "stop") [] from_stop stop_named) refl

    no_event_at_cut : is_eventful from_cut ≡ false
    no_event_at_cut = eventless from_cut cut_is_among

    no_earlier_at_events : IsNoEarlier from_events
    no_earlier_at_events = by_case life.events fit.events
      where
        by_case : (xs : List Event) → FitAfter (IsEventAfter (length blocks) (is_some config.probe)) [] xs → IsNoEarlier (events_text xs ++ from_cut)
        by_case [] f = of_among after_events from_cut cut_is_among refl refl refl refl
        by_case (x ∷ xs) f = subst IsNoEarlier (sym (append_assoc (event_line x) (events_text xs) from_cut)) (no_earlier (length blocks) (is_some config.probe) [] x (events_text xs ++ from_cut) f.0)

    at_sync : (name : List ℕ) → bytes_eq (codes "sync") name ≡ false → begins name from_events ≡ false → begins name from_sync ≡ false
    at_sync name apart over = sync_keeps addressed (length blocks) (is_some config.oneshot) name apart life.sync from_events fit.sync over

    at_held : (name : List ℕ) → bytes_eq (codes "held") name ≡ false → begins name from_sync ≡ false → begins name from_held ≡ false
    at_held name apart over = held_keeps (length blocks) name apart life.held from_sync fit.held over

    life_read : life_lines_at addressed config blocks (word_line life.word ++ (anchor_text life.anchor ++ from_held)) ≡ Ok (life, rest)
    unfolding life_lines_at event_lines_at
    life_read =
        let early = no_earlier_at_events in
        let held_over = at_sync (codes "held") refl early.held in
        let no_processed = at_held (codes "processed") refl (at_sync (codes "processed") refl early.processed) in
        let no_absent = at_held (codes "absent") refl (at_sync (codes "absent") refl early.absent) in
        bind_is _ _ _ _ ((number_line_law (codes "life") refl).again life.word (anchor_text life.anchor ++ from_held) fit.word)
        (bind_is _ _ _ _ (anchor_again blocks life.anchor from_held fit.anchor no_processed no_absent)
        (bind_is _ _ _ _ (held_again (length blocks) life.held from_sync fit.held held_over)
        (bind_is _ _ _ _ (sync_again addressed (length blocks) (is_some config.oneshot) life.sync from_events fit.sync early.sync)
        (bind_is _ _ _ _ (many_again is_eventful (IsEventAfter (length blocks) (is_some config.probe)) event_line (event_line_at (length blocks) (is_some config.probe)) (events_law (length blocks) (is_some config.probe)) (goes_on (length blocks) (is_some config.probe)) line_long life.events from_cut fit.events no_event_at_cut)
        (bind_is _ _ _ _ (cut_again (length life.events) life.cut from_stop fit.cut no_cut_at_stop)
        (bind_is _ _ _ _ ((number_line_law (codes "stop") refl).again life.pick rest fit.pick) refl))))))

    life_again : life_lines_at addressed config blocks (life_text life ++ rest) ≡ Ok (life, rest)
    life_again = ap (life_lines_at addressed config blocks) (seven (word_line life.word) (anchor_text life.anchor) (held_line life.held) (sync_text life.sync) (events_text life.events) (cut_text life.cut) (stop_line life.pick) rest) ∙ life_read

    life_named : HasName (codes "life") (life_text life ++ rest)
    life_named =
        subst (HasName (codes "life")) (sym (append_assoc (word_line life.word) (anchor_text life.anchor ++ (held_line life.held ++ (sync_text life.sync ++ (events_text life.events ++ (cut_text life.cut ++ stop_line life.pick))))) rest))
        (number_line_named (codes "life") refl life.word ((anchor_text life.anchor ++ (held_line life.held ++ (sync_text life.sync ++ (events_text life.events ++ (cut_text life.cut ++ stop_line life.pick))))) ++ rest) fit.word)

  pub life_law : IsLine (IsLife addressed config blocks) life_text (life_lines_at addressed config blocks)
  life_law = record { found = life_found; again = λ life rest fit. life_again life rest fit }

  life_long : (life : Life) → 0 < length (life_text life)
  life_long life =
      let more = anchor_text life.anchor ++ (held_line life.held ++ (sync_text life.sync ++ (events_text life.events ++ (cut_text life.cut ++ stop_line life.pick)))) in
      let size = length-append (word_line life.word) more in
      let some = long (codes "life" ++ number_field life.word) in
      omega (arith, size, some)

-- THE LAST LINE

pub end_line_law : IsLine (λ (x : Unit {0}). Unit {0}) (λ x. with_line_feed (codes "end")) (line_at (codes "end") no_fields)
end_line_law = line_law (codes "end") (plain_name (codes "end") refl) (λ (x : Unit {0}). Unit {0}) (λ x. []) no_fields nothing_law

end_found : (text : List ℕ) (x : Unit {0}) → end_at text ≡ Ok x → text ≡ with_line_feed (codes "end")
unfolding end_at
end_found text x e =
    let b = bind_ok (line_at (codes "end") no_fields text) _ x e in
    let f = end_line_law.found text b.0.0 b.0.1 b.1 in
    by_case b.0.1 f.1 b.2
  where
    by_case : (left : List ℕ) → text ≡ with_line_feed (codes "end") ++ left → nothing_left left ≡ Ok x → text ≡ with_line_feed (codes "end")
    by_case [] is e = is
    by_case (c ∷ cs) is e = cc e

end_again : end_at (with_line_feed (codes "end")) ≡ Ok tt
unfolding end_at
end_again = bind_is _ _ _ _ (end_line_law.again tt [] tt) refl

end_named : HasName (codes "end") (with_line_feed (codes "end"))
end_named = line_named (codes "end") (plain_name (codes "end") refl) (λ (x : Unit {0}). Unit {0}) (λ x. []) no_fields nothing_law tt [] tt

-- THE SCRIPT

script_found : (addressed : Bool) (text : List ℕ) (script : Script) → reading_of addressed text ≡ Ok script → IsScript script × (script.addressed ≡ addressed) × (text ≡ text_of script)
unfolding reading_of blocks_at lives_at
script_found addressed text script e =
    let c = bind_ok (config_at addressed text) _ script e in
    let b = bind_ok (many_lines_at (begins (codes "block")) (block_line_at addressed c.0.0) c.0.1) _ script c.2 in
    let l = bind_ok (many_lines_at (begins (codes "life")) (λ _. life_lines_at addressed c.0.0 b.0.0) b.0.1) _ script b.2 in
    let n = bind_ok (end_at l.0.1) _ script l.2 in
    let fc = config_found addressed text c.0.0 c.0.1 c.1 in
    let fb = many_found (begins (codes "block")) (IsBlockLine addressed c.0.0) block_line (block_line_at addressed c.0.0) (blocks_law addressed c.0.0) c.0.1 b.0.0 b.0.1 b.1 in
    let fl = many_found (begins (codes "life")) (λ _. IsLife addressed c.0.0 b.0.0) life_text (λ _. life_lines_at addressed c.0.0 b.0.0) (λ _. life_law addressed c.0.0 b.0.0) b.0.1 l.0.0 l.0.1 l.1 in
    let fn = end_found l.0.1 n.0 n.1 in
    let made : Script = record { addressed = addressed; config = c.0.0; blocks = b.0.0; lives = l.0.0 } in
    let fits : IsScript made = record { config = fc.0; blocks = fb.0; lives = fl.0 } in
    let is : text ≡ text_of made = front (config_text c.0.0) text c.0.1 _ fc.1 (front (flat_map block_line b.0.0) c.0.1 b.0.1 _ fb.1 (front (flat_map life_text l.0.0) b.0.1 l.0.1 _ fl.1 fn)) in
    subst (λ (s : Script). IsScript s × (s.addressed ≡ addressed) × (text ≡ text_of s)) (ok_is made script n.2) (fits, refl, is)

module _ (script : Script) (fit : IsScript script) where
  abbrev from_end : List ℕ
  from_end = with_line_feed (codes "end")

  abbrev from_lives : List ℕ
  from_lives = flat_map life_text script.lives ++ from_end

  abbrev from_blocks : List ℕ
  from_blocks = flat_map block_line script.blocks ++ from_lives

  end_is_among : IsAmong (codes "end" ∷ []) from_end
  end_is_among = here (codes "end") [] from_end end_named

  lives_among : IsAmong (codes "life" ∷ codes "end" ∷ []) from_lives
  lives_among =
      many_among (begins (codes "life")) (λ _. IsLife script.addressed script.config script.blocks) life_text (λ _. life_lines_at script.addressed script.config script.blocks) (λ _. life_law script.addressed script.config script.blocks) (codes "life" ∷ codes "end" ∷ [])
      (λ done x more f. here (codes "life") (codes "end" ∷ []) (life_text x ++ more) (life_named script.addressed script.config script.blocks x more f))
      [] script.lives from_end fit.lives (later (codes "life") (codes "end" ∷ []) from_end end_is_among)

  blocks_among : IsAmong after_config from_blocks
  blocks_among =
      many_among (begins (codes "block")) (IsBlockLine script.addressed script.config) block_line (block_line_at script.addressed script.config) (blocks_law script.addressed script.config) after_config
      (λ done x more f. here (codes "block") (codes "life" ∷ codes "end" ∷ []) (block_line x ++ more) (block_named script.addressed script.config done x more f))
      [] script.blocks from_lives fit.blocks (later (codes "block") (codes "life" ∷ codes "end" ∷ []) from_lives lives_among)

  script_again : reading_of script.addressed (text_of script) ≡ Ok script
  unfolding reading_of blocks_at lives_at
  script_again =
      bind_is _ _ _ _ (config_again script.addressed script.config fit.config from_blocks blocks_among)
      (bind_is _ _ _ _ (many_again (begins (codes "block")) (IsBlockLine script.addressed script.config) block_line (block_line_at script.addressed script.config) (blocks_law script.addressed script.config)
      (λ done x more f. begins_so (codes "block") (block_line x ++ more) (block_named script.addressed script.config done x more f)) (λ x. long (codes "block" ++ (number_field x.height ++ (number_or_dash x.parent ++ (number_field x.view ++ bytes_or_dash x.payload)))))
      script.blocks from_lives fit.blocks (not_begun (codes "block") (codes "life" ∷ codes "end" ∷ []) from_lives lives_among refl))
      (bind_is _ _ _ _ (many_again (begins (codes "life")) (λ _. IsLife script.addressed script.config script.blocks) life_text (λ _. life_lines_at script.addressed script.config script.blocks) (λ _. life_law script.addressed script.config script.blocks)
      (λ done x more f. begins_so (codes "life") (life_text x ++ more) (life_named script.addressed script.config script.blocks x more f)) (life_long script.addressed script.config script.blocks)
      script.lives from_end fit.lives (not_begun (codes "life") (codes "end" ∷ []) from_end end_is_among refl))
      (bind_is _ _ _ _ end_again refl)))

given : (r : Result Script ℕ) (script : Script) → result_ok r ≡ Some script → r ≡ Ok script
given (Ok s) script e = (let same : s ≡ script = some_is s script e in ap (λ (x : Script). Ok x) same)
given (Err n) script e = cc e

pub read_again : IsReadAgain
unfolding script_of
read_again script fit = ap result_ok (script_again script fit)

pub written_again : IsWrittenAgain
unfolding script_of
written_again addressed text script e = script_found addressed text script (given (reading_of addressed text) script e)
