-- What was read of a request's ancestry, in terms of its blocks: a path of it is read, the highest block first, until it is completed or refused.
use Rattle.std.proofs.Common.{◌≡◌, ◌⊎◌, inl, inr, ℕ, ◌<◌, ◌++◌, Bool, true, false, List, [], ◌∷◌, Option, refl, sym, ◌∙◌, ap, subst, arith, append_assoc, append-nil}
use Rattle.std.specs.Prelude.{◌==◌, if◌then◌else◌, option_map, reverse}
use Rattle.std.proofs.lemmas.Bool.Decides.{nat_tests}
use Rattle.std.proofs.lemmas.Grind.{reverse_onto}
use Rattle.dkg_ceremony.specs.declared.epocher.Bounds.{Bounds}
use Rattle.dkg_ceremony.specs.declared.round.RoundParts.{RoundParts as Round}
use Rattle.dkg_ceremony.specs.Outcomes.{LogMap}
use Rattle.dkg_types.specs.Blocks.{Block}
use Rattle.dkg_types.specs.Paths.{logs_of_path}
use Rattle.dkg_infos.specs.declared.entry.Why.{Why}
use Rattle.dkg_infos.specs.declared.entry.Why.TheVariants.{Short}
use Rattle.dkg_artifact.specs.Ancestries.{CompletesPath, IsUnderWay, Refuses, Says, StandsAtPath}
use Rattle.dkg_artifact.specs.Scans.{Check, above, feeds, first_answer, starts}
use Rattle.dkg_artifact.specs.Seen.{Scan}
use Rattle.dkg_artifact.specs.declared.scan.Fed as declared
use Rattle.dkg_artifact.specs.declared.scan.Fed.TheVariants as answer
use Rattle.dkg_artifact.specs.declared.scan.Tip.{Tip}
use Rattle.dkg_artifact.proofs.Standing.{begun, feed_says}
use Rattle.dkg_verifying.specs.Scanned.{fed_all}
use Rattle.dkg_verifying.specs.InclusionOf.{tip_of}
use Rattle.dkg_inclusion.proofs.Scans.{closed_by, fed_done, read_is}
use Rattle.dkg_core.specs.Fixed.{Fixed}
use Rattle.dkg_core.specs.Including.{Fed, Need, Found, Lacks, final_height, read_of}
use Rattle.dkg_core.specs.Live.{Live, Request}
use Rattle.dkg_ceremony.specs.Schedule.{midpoint}

module _ {Dir : Type 0} (check : Check) (round : Round) (bounds : Bounds) (tip : Option Tip) where
  -- A path completes what was fed, and these are its logs.
  pub record IsCompleted (all : List (Block Dir)) (found : LogMap) : Type 0 where
    pub path : List (Block Dir)
    pub lowest : Block Dir
    pub rest : List (Block Dir)
    pub fed : all ≡ reverse (lowest ∷ path) ++ rest
    pub completes : CompletesPath bounds tip path lowest
    pub logs : found ≡ logs_of_path check bounds.midpoint bounds.last round (above tip (lowest ∷ path))

  -- Behind a path the next block is refused.
  pub record IsRefused (all : List (Block Dir)) (why : Why) : Type 0 where
    pub path : List (Block Dir)
    pub next : Block Dir
    pub rest : List (Block Dir)
    pub fed : all ≡ reverse path ++ (next ∷ rest)
    pub under_way : IsUnderWay bounds tip path
    pub so : Refuses bounds tip path next why

  -- All that was fed is a path that goes on.
  pub record GoesOn (all : List (Block Dir)) : Type 0 where
    pub path : List (Block Dir)
    pub fed : all ≡ reverse path
    pub under_way : IsUnderWay bounds tip path

  -- what is found of an ancestry
  abbrev pub IsRead : List (Block Dir) → (ended : Bool) → Fed → Type 0
  IsRead all ended Need = GoesOn all × (ended ≡ false)
  IsRead all ended (Found found) = IsCompleted all found
  IsRead all ended (Lacks why) = ((why ≡ Short) × (ended ≡ true) × GoesOn all) ⊎ IsRefused all why

  one_more : (path : List (Block Dir)) (b : Block Dir) (bs : List (Block Dir)) → reverse path ++ (b ∷ bs) ≡ reverse (b ∷ path) ++ bs
  one_more path b bs = sym (ap (λ (xs : List (Block Dir)). xs ++ bs) (reverse_onto path b []) ∙ append_assoc (reverse path) (b ∷ []) bs)

  module _ (all : List (Block Dir)) (ended : Bool) where
    at_end : (path : List (Block Dir)) → IsUnderWay bounds tip path → all ≡ reverse path ++ [] → IsRead all ended (closed_by ended answer.Need)
    at_end path under fed = by_end ended refl
      where
        on : GoesOn all
        on = record { path = path; fed = fed ∙ append-nil (reverse path); under_way = under }

        by_end : (t : Bool) → ended ≡ t → IsRead all ended (if t then Lacks Short else Need)
        by_end true is = inl (refl, is, on)
        by_end false is = (on, is)

    walk : (bs path : List (Block Dir)) (s : Scan) → StandsAtPath check round bounds tip path s → all ≡ reverse path ++ bs → IsRead all ended (closed_by ended (fed_all check s answer.Need bs).0)
    walk [] path s stands fed = at_end path stands.under_way fed
    walk (b ∷ bs) path s stands fed =
        by_answer (λ now says. walk bs (b ∷ path) now (says.goes_on refl) (fed ∙ one_more path b bs)) (feeds check s b).0 (feeds check s b).1 (feed_says check round bounds tip path s b stands)
      where
        by_answer : ((now : Scan) → Says check round bounds tip path b answer.Need now → IsRead all ended (closed_by ended (fed_all check now answer.Need bs).0)) → (its : declared.Fed) (now : Scan) → Says check round bounds tip path b its now
            → IsRead all ended (closed_by ended (fed_all check now its bs).0)
        by_answer again answer.Need now says = again now says
        by_answer again (answer.Logs found) now says =
            subst (λ (p : declared.Fed × Scan). IsRead all ended (closed_by ended p.0)) (sym (fed_done check now (answer.Logs found) bs (λ e. cc)))
            (record { path = path; lowest = b; rest = bs; fed = fed ∙ one_more path b bs; completes = says.answers.0; logs = says.answers.1 })
        by_answer again (answer.Unavailable why) now says =
            subst (λ (p : declared.Fed × Scan). IsRead all ended (closed_by ended p.0)) (sym (fed_done check now (answer.Unavailable why) bs (λ e. cc)))
            (inr (record { path = path; next = b; rest = bs; fed = fed; under_way = stands.under_way; so = says.answers }))

    pub from_start : 0 < bounds.last → IsRead all ended (closed_by ended (fed_all check (starts round bounds tip) (first_answer bounds.last) all).0)
    from_start some =
        subst (λ (its : declared.Fed). IsRead all ended (closed_by ended (fed_all check (starts round bounds tip) its all).0)) (sym first)
        (walk all [] (starts round bounds tip) (begun check round bounds tip (starts round bounds tip) refl refl refl refl refl refl some) refl)
      where
        first : first_answer bounds.last ≡ answer.Need
        first = ap (λ (none : Bool). if none then answer.Logs [] else answer.Need) (apart bounds.last some)
          where
            apart : (n : ℕ) → 0 < n → (n == 0) ≡ false
            apart n low = grind (arith, nat_tests)

-- A REQUEST is read so.
pub read_so : {Dir : Type 0} (c : Fixed Dir) (round : Round) (st : Live Dir) (check : Check) (checks : c.rules.check_log_of ≡ check) (bounds : Bounds) → bounds.last ≡ final_height c st
    → bounds.midpoint ≡ midpoint c.blocks_per_epoch st.participation.epoch → 0 < bounds.last → (r : Request Dir) → IsRead check round bounds (option_map tip_of st.tip) r.blocks r.ended (read_of c round st r)
read_so c round st check checks bounds last_is middle_is some r =
    subst (λ (f : Fed). IsRead check round bounds (option_map tip_of st.tip) r.blocks r.ended f) (sym (read_is c round st check checks bounds last_is middle_is r.number r.blocks r.ended))
    (from_start check round bounds (option_map tip_of st.tip) r.blocks r.ended some)
