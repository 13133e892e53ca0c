-- A run of lives over many epochs, over devices that tell, offers the same to a player of an epoch at each time.
use Rattle.std.proofs.Common.{◌≡◌, ◌⊎◌, inl, inr, ℕ, zero, suc, ◌+◌, ◌-◌, ◌<◌, ◌≤◌, ◌++◌, ◌∷◌, [], List, Option, Some, None, Result, Ok, Err, max, refl, sym, ◌∙◌, ap, subst, length, add-one, arith, append_assoc, length-append}
use Rattle.std.specs.Prelude.{IfSome, IsSomeAnd, slice_get}
use Rattle.std.specs.Option.{option_flatten, option_map_or}
use Rattle.dkg_journal.specs.Names.{Files}
use Rattle.dkg_infos.specs.declared.entry.Entry.{Entry}
use Rattle.dkg_infos.specs.declared.entry.Entry.TheVariants as entry
use Rattle.dkg_infos.specs.declared.fault.Fault.{Fault}
use Rattle.dkg_infos.specs.declared.fault.Fault.TheVariants.{NoMemory}
use Rattle.dkg_text.specs.declared.script.Cut as cut
use Rattle.dkg_text.specs.declared.script.Life.{Life}
use Rattle.dkg_text.specs.declared.script.Script.{Script}
use Rattle.dkg_script.specs.Consistent.{IsConsistentScript}
use Rattle.dkg_script.specs.Epochs.{alone}
use Rattle.dkg_script.specs.Inclusion.{IsFormOfInclusion}
use Rattle.dkg_script.specs.Position.{awaited_before, awaited_epoch, awaited_epoch_in, cut_of, events_taken, last_awaited}
use Rattle.dkg_script.specs.SameOffers.{SameOffers}
use Rattle.dkg_script.specs.Setting.{Setting, CutAt, blocks_per_epoch, found, life_at}
use Rattle.dkg_store.specs.Acts.{Held, World, says}
use Rattle.dkg_core.specs.Seen.{Seen}
use Rattle.dkg_core.specs.Storing.{ReadsSecrets}
use Rattle.dkg_life.specs.declared.stop.Stop.{Stop}
use Rattle.dkg_life.specs.declared.stop.Stop.TheVariants.{Cut, Failed, Fault as FaultOf}
use Rattle.dkg_lives.specs.Epochs.{IsLifeInForm, epoch_by}
use Rattle.dkg_lives.specs.Given.{Lived, lived}
use Rattle.dkg_lives.specs.Lives.{AnyFiles, EndsLife, LivesFrom, LivesSo, RunsAllSo, RunsSo, TellsEnd}
use Rattle.dkg_lives.specs.Ways.{by_worlds}
use Rattle.dkg_along.proofs.Alone.{epoch_alike}
use Rattle.dkg_lives.proofs.Former.{life_in}
use Rattle.dkg_along.proofs.HeightsRise.{awaited_rise}
use Rattle.dkg_promises.proofs.OfferedHalves.{HasOffered, more_offered, nothing_offered}
use Rattle.dkg_promises.proofs.OfferingLives.{IsLeft, least_at, life_offers, taken_by}

none_some : {A : Type 0} {x : A} → ◌≡◌ {A = Option A} None (Some x) → ⊥
none_some e = cc

-- HOW THE LIVES OF A RUN ENDED, as its entries tell it

module _ (life : Life) (mid : World) (result : Result (Unit {0}) Fault) (new : World) (Rests : World → Type 0) (on : (mid : World) → Rests mid → List (Option CutAt)) where
  abbrev pub ends_cut : (o : Option cut.Cut) → IsSomeAnd o (λ its. ((result ≡ Err NoMemory) × (new ≡ mid)) ⊎ Rests (says mid (entry.Cut its.step its.call))) → List (Option CutAt)
  ends_cut None ends = []
  ends_cut (Some its) (inl wants) = []
  ends_cut (Some its) (inr more) = Some (record { step = its.step; call = its.call }) ∷ on (says mid (entry.Cut its.step its.call)) more

  abbrev pub ends_by : (how : Result (Unit {0}) Stop) → EndsLife by_worlds life how mid result new Rests → List (Option CutAt)
  ends_by (Ok done) ends = None ∷ on mid ends
  ends_by (Err Cut) ends = ends_cut life.cut ends
  ends_by (Err (FaultOf fault)) ends = []
  ends_by (Err Failed) ends = []

abbrev pub ends_of : (script : Script) (lives : List Life) (first : Files → Type 0) (l : ℕ) (w : World) (result : Result (Unit {0}) Fault) (new : World) → LivesFrom by_worlds script first l lives w result new → List (Option CutAt)
ends_of script [] first l w result new run = []
ends_of script (life ∷ lives) first l w result new run =
    ends_by life run.3 result new (λ mid. LivesFrom by_worlds script AnyFiles (l + 1) lives mid result new) (λ mid more. ends_of script lives AnyFiles (l + 1) mid result new more) run.2 run.8

abbrev pub run_ends : (script : Script) (first : Files → Type 0) (w : World) (result : Result (Unit {0}) Fault) (new : World) → RunsAllSo by_worlds script first w result new → List (Option CutAt)
run_ends script first w result new (inl refused) = []
run_ends script first w result new (inr (checked, inl wants)) = []
run_ends script first w result new (inr (checked, inr lives)) = ends_of script script.lives first 0 w result new lives

-- POSITIONS IN LISTS

below_some : {A : Type 0} (xs : List A) (k : ℕ) (x : A) → slice_get xs k ≡ Some x → k < length xs
below_some [] k x is = absurd (none_some is)
below_some (y ∷ ys) zero x is = omega arith
below_some (y ∷ ys) (suc k) x is = let rest = below_some ys k x is in omega (arith, rest)

item_behind : {A : Type 0} (xs : List A) (x : A) (more : List A) → slice_get (xs ++ x ∷ more) (length xs) ≡ Some x
item_behind [] x more = refl
item_behind (y ∷ ys) x more = item_behind ys x more

longer : {A : Type 0} (xs : List A) (x : A) → length (xs ++ x ∷ []) ≡ length xs + 1
longer xs x = length-append xs (x ∷ [])

-- these are the script's lives from number l on
abbrev pub AreLivesFrom : Setting → ℕ → List Life → Type 0
AreLivesFrom s l [] = Unit {0}
AreLivesFrom s l (life ∷ lives) = (life_at s l ≡ Some life) × AreLivesFrom s (l + 1) lives

pub script_lives : (s : Setting) (front lives : List Life) → s.script.lives ≡ front ++ lives → AreLivesFrom s (length front) lives
script_lives s front [] is = tt
script_lives s front (life ∷ lives) is =
    (ap (λ (xs : List Life). slice_get xs (length front)) is ∙ item_behind front life lives, subst (λ (n : ℕ). AreLivesFrom s n lives) (longer front life) (script_lives s (front ++ life ∷ []) lives (is ∙ sym (append_assoc front (life ∷ []) lives))))

-- ALL LIVES, of a script that is consistent where they ended so
module _ (s : Setting) (cuts : List (Option CutAt)) (form : IsFormOfInclusion s.script) (consistent : IsConsistentScript s cuts) (unfound : (l : ℕ) → found s l ≡ None)
    (over : (l : ℕ) (life : Life) (seen : Held → Seen) (files : Files) → life_at s l ≡ Some life → by_worlds.reads seen → IsLifeInForm (lived s.script l life seen files) × ReadsSecrets seen) (base : List Entry) where
  abbrev Offers : World → Type 0
  Offers new = (most : ℕ) × HasOffered s most base new

  module _ (l : ℕ) (life : Life) (seen : Held → Seen) (files : Files) (life_is : life_at s l ≡ Some life) (here : IsLifeInForm (lived s.script l life seen files)) where
    abbrev g : Lived
    g = lived s.script l life seen files

    epoch_is : (j : ℕ) → awaited_epoch s l life j ≡ epoch_by g j
    epoch_is j = epoch_alike s l life (life_in g here).no_sync (unfound l) j

    some : 1 ≤ blocks_per_epoch s
    some = one (blocks_per_epoch s) here.long
      where
        one : (n : ℕ) → 2 ≤ n → 1 ≤ n
        one n long = omega (arith, long)

    -- it starts no more than one epoch below those before
    starts : (most : ℕ) → l ≤ length cuts → most ≤ awaited_before s cuts l - 1 → most ≤ epoch_by g 0
    starts most begun low =
        let first : awaited_epoch_in s l 0 ≡ epoch_by g 0 = ap (λ (o : Option Life). option_map_or (λ its. awaited_epoch s l its 0) o 0) life_is ∙ epoch_is 0 in
        let back : awaited_before s cuts l ≤ awaited_epoch_in s l 0 + 1 = consistent.never_back l (below_some s.script.lives l life life_is) begun in
        under most (awaited_before s cuts l) (awaited_epoch_in s l 0) (epoch_by g 0) low back first
      where
        under : (m a e b : ℕ) → m ≤ a - 1 → a ≤ e + 1 → e ≡ b → m ≤ b
        under m a e b one two same = omega (arith, one, two, same)

    -- .. and leaves what the next one may start from
    next_low : (most top : ℕ) (cs : List (Option CutAt)) (end : Option CutAt) (more : List (Option CutAt)) → length cs ≡ l → cuts ≡ cs ++ end ∷ more → top ≤ events_taken life end → most ≤ awaited_before s cuts l - 1
        → max most (epoch_by g top - 1) ≤ awaited_before s cuts (l + 1) - 1
    next_low most top cs end more count is bound low =
        let here_cut : cut_of cuts l ≡ end = ap option_flatten (ap (λ (xs : List (Option CutAt)). slice_get xs l) is ∙ ap (slice_get (cs ++ end ∷ more)) (sym count) ∙ item_behind cs end more) in
        let last : last_awaited s cuts l ≡ awaited_epoch s l life (events_taken life end)
        = ap (λ (o : Option Life). option_map_or (λ its. awaited_epoch s l its (events_taken its (cut_of cuts l))) o 0) life_is ∙ ap (λ (c : Option CutAt). awaited_epoch s l life (events_taken life c)) here_cut in
        let up : epoch_by g top ≤ epoch_by g (events_taken life end) = awaited_rise (alone s.script) l life some top (events_taken life end) bound in
        let later : awaited_before s cuts (l + 1) ≡ max (awaited_before s cuts l) (last_awaited s cuts l) = ap (awaited_before s cuts) (add-one l) in
        under most (awaited_before s cuts l) (epoch_by g top) (epoch_by g (events_taken life end)) (last_awaited s cuts l) (awaited_before s cuts (l + 1)) low up (last ∙ epoch_is (events_taken life end)) later
      where
        under : (m a t e b c : ℕ) → m ≤ a - 1 → t ≤ e → b ≡ e → c ≡ max a b → max m (t - 1) ≤ c - 1
        under m a t e b c one two three four = omega (arith, one, two, three, four)

  from_offers : (lives : List Life) (first : Files → Type 0) (l : ℕ) (w : World) (result : Result (Unit {0}) Fault) (new : World) (cs : List (Option CutAt)) → AreLivesFrom s l lives → length cs ≡ l
      → (most : ℕ) → most ≤ awaited_before s cuts l - 1 → HasOffered s most base w → (run : LivesFrom by_worlds s.script first l lives w result new) → cuts ≡ cs ++ ends_of s.script lives first l w result new run → Offers new
  from_offers [] first l w result new cs are count most low offered run is = (most, subst (HasOffered s most base) (sym run.1) offered)
  from_offers (life ∷ lives) first l w result new cs are count most low offered run is =
      by_how run.2 run.7 run.8 is (λ now cs are count most low offered run is. from_offers lives AnyFiles (l + 1) now result new cs are count most low offered run is)
    where
      seen : Held → Seen
      seen = run.0

      files : Files
      files = run.1

      mid : World
      mid = run.3

      its : IsLifeInForm (lived s.script l life seen files) × ReadsSecrets seen
      its = over l life seen files are.0 run.4

      Rests : World → Type 0
      Rests mid = LivesFrom by_worlds s.script AnyFiles (l + 1) lives mid result new

      on : (mid : World) → Rests mid → List (Option CutAt)
      on mid more = ends_of s.script lives AnyFiles (l + 1) mid result new more

      On : Type 0
      On = (mid : World) (cs : List (Option CutAt)) → AreLivesFrom s (l + 1) lives → length cs ≡ l + 1 → (most : ℕ) → most ≤ awaited_before s cuts (l + 1) - 1 → HasOffered s most base mid → (run : Rests mid)
          → cuts ≡ cs ++ on mid run → Offers new

      begun : (ends : List (Option CutAt)) → cuts ≡ cs ++ ends → l ≤ length cuts
      begun ends is = at_least l (length cs) (length ends) (length cuts) count (ap length is ∙ length-append cs ends)
        where
          at_least : (a b c d : ℕ) → b ≡ a → d ≡ b + c → a ≤ d
          at_least a b c d one two = omega (arith, one, two)

      left : (how : Result (Unit {0}) Stop) → LivesSo by_worlds (lived s.script l life seen files) files w how mid → (ends : List (Option CutAt)) → cuts ≡ cs ++ ends → IsLeft s cuts form consistent l life seen files are.0 its.0 its.1 most base how mid
      left how so ends is = life_offers s cuts form consistent l life seen files are.0 its.0 its.1 most base (starts l life seen files are.0 its.0 most (begun ends is) low) w how mid offered so

      by_cut : (so : LivesSo by_worlds (lived s.script l life seen files) files w (Err Cut) mid) (o : Option cut.Cut) → life.cut ≡ o → (ends : IsSomeAnd o (λ its. ((result ≡ Err NoMemory) × (new ≡ mid)) ⊎ Rests (says mid (entry.Cut its.step its.call))))
          → cuts ≡ cs ++ ends_cut life mid result new Rests on o ends → On → Offers new
      by_cut so None cut_is ends is next = absurd ends
      by_cut so (Some at) cut_is (inl wants) is next = let behind = left (Err Cut) so [] is in (least_at s cuts form consistent l life seen files are.0 its.0 its.1 most behind.top, subst (HasOffered s _ base) (sym wants.1) behind.offered)
      by_cut so (Some at) cut_is (inr more) is next =
          let end : Option CutAt = Some (record { step = at.step; call = at.call }) in
          let here : World = says mid (entry.Cut at.step at.call) in
          let behind = left (Err Cut) so (end ∷ on here more) is in
          let bound : behind.top ≤ taken_by at = subst (λ (o : Option cut.Cut). IfSome o (λ own. behind.top ≤ taken_by own)) cut_is behind.bound in
          let least : ℕ = least_at s cuts form consistent l life seen files are.0 its.0 its.1 most behind.top in
          next here (cs ++ end ∷ []) are.1 (longer cs end ∙ ap (λ (n : ℕ). n + 1) count) least (next_low l life seen files are.0 its.0 most behind.top cs end (on here more) count is bound low)
          (more_offered s least least (omega arith) base mid here behind.offered (entry.Cut at.step at.call ∷ []) refl (λ epoch seed above got. got) (tt, tt)) more
          (is ∙ sym (append_assoc cs (end ∷ []) (on here more)))

      by_how : (how : Result (Unit {0}) Stop) (so : LivesSo by_worlds (lived s.script l life seen files) files w how mid) (ends : EndsLife by_worlds life how mid result new Rests)
          → cuts ≡ cs ++ ends_by life mid result new Rests on how ends → On → Offers new
      by_how (Ok done) so ends is next =
          let behind = left (Ok done) so (None ∷ on mid ends) is in
          let least : ℕ = least_at s cuts form consistent l life seen files are.0 its.0 its.1 most behind.top in
          next mid (cs ++ None ∷ []) are.1 (longer cs None ∙ ap (λ (n : ℕ). n + 1) count) least (next_low l life seen files are.0 its.0 most behind.top cs None (on mid ends) count is behind.bound low) behind.offered ends
          (is ∙ sym (append_assoc cs (None ∷ []) (on mid ends)))
      by_how (Err Cut) so ends is next = by_cut so life.cut refl ends is next
      by_how (Err (FaultOf fault)) so ends is next =
          let behind = left (Err (FaultOf fault)) so [] is in (least_at s cuts form consistent l life seen files are.0 its.0 its.1 most behind.top, subst (HasOffered s _ base) (sym ends.1) behind.offered)
      by_how (Err Failed) so ends is next = absurd ends

-- THE RUN
pub record OffersSame (old new : List Entry) : Type 0 where
  pub added : List Entry
  pub out : new ≡ old ++ added
  pub same : SameOffers added

module _ (s : Setting) (form : IsFormOfInclusion s.script) (unfound : (l : ℕ) → found s l ≡ None)
    (over : (l : ℕ) (life : Life) (seen : Held → Seen) (files : Files) → life_at s l ≡ Some life → by_worlds.reads seen → IsLifeInForm (lived s.script l life seen files) × ReadsSecrets seen) where
  pub run_offers : (first : Files → Type 0) (w : World) (answered : Result (Unit {0}) Fault) (new : World) (run : RunsSo by_worlds s.script first w answered new)
      → IsConsistentScript s (run_ends s.script first w run.result run.mid run.lives) → OffersSame w.out new.out
  run_offers first w answered new run consistent = by_told run.result run.told (by_lives run.lives consistent)
    where
      by_lives : (lives : RunsAllSo by_worlds s.script first w run.result run.mid) → IsConsistentScript s (run_ends s.script first w run.result run.mid lives) → (most : ℕ) × HasOffered s most w.out run.mid
      by_lives (inl (fault, refused, is, same)) consistent = (0, subst (HasOffered s 0 w.out) (sym same) (nothing_offered s 0 w))
      by_lives (inr (checked, inl wants)) consistent = (0, subst (HasOffered s 0 w.out) (sym wants.1) (nothing_offered s 0 w))
      by_lives (inr (checked, inr lives)) consistent =
          from_offers s (ends_of s.script s.script.lives first 0 w run.result run.mid lives) form consistent unfound over w.out s.script.lives first 0 w run.result run.mid [] (script_lives s [] s.script.lives refl) refl 0 (omega arith)
          (nothing_offered s 0 w) lives refl

      by_told : (result : Result (Unit {0}) Fault) → TellsEnd by_worlds result answered run.mid new → (most : ℕ) × HasOffered s most w.out run.mid → OffersSame w.out new.out
      by_told (Ok done) told its = record { added = (its.1).added; out = ap (λ (x : World). x.out) told.1 ∙ (its.1).out; same = (its.1).same }
      by_told (Err fault) (inl wants) its = record { added = (its.1).added; out = ap (λ (x : World). x.out) wants.1 ∙ (its.1).out; same = (its.1).same }
      by_told (Err fault) (inr told) its =
          let more = more_offered s its.0 its.0 (omega arith) w.out run.mid (says run.mid (entry.Fault fault)) its.1 (entry.Fault fault ∷ []) refl (λ epoch seed above got. got) (tt, tt) in
          record { added = more.added; out = ap (λ (x : World). x.out) told.2 ∙ more.out; same = more.same }
