-- What a request is told at first: a number that has an answer keeps it.
use Rattle.std.proofs.Common.{◌≡◌, ℕ, arith, Bool, true, false, cond, Option, Some, None, refl, sym, ◌∙◌, ap}
use denote.Ref.{Bor}
use Rattle.std.specs.Prelude.{is_some}
use Rattle.std.specs.Cmp.{nat_cmp_total}
use Rattle.std.specs.FinMap.{FinMap, get, get-insert, insert, nat_cmp-IsAntisymmetric, same_map}
use Rattle.std.specs.Option.{option_copied}
use Rattle.std.specs.Ordering.{eq_by_cmp, nat_cmp}
use Rattle.std.proofs.lemmas.Bool.Decides.{nat_tests}
use Rattle.dkg_verifying.specs.declared.told.Told.{Told}
use Rattle.dkg_verifying.specs.InclusionOf.{answer_or, posted_in}

one_number : (q k : ℕ) → eq_by_cmp nat_cmp q k ≡ true → q ≡ k
one_number q k is = grind (arith, nat_tests)

module _ {Dir : Type 0} (answers : FinMap nat_cmp (Told Dir)) (request : ℕ) where
  pub posted_again : (its : Told Dir) → get answers request ≡ Some its → answers ≡ posted_in request answers
  posted_again its is =
      sym (ap (λ (o : Option (Told Dir)). insert answers request (answer_or o)) is
      ∙ same_map nat_cmp_total nat_cmp-IsAntisymmetric _ _ (λ q. get-insert nat_cmp_total answers request its q ∙ alike q (eq_by_cmp nat_cmp q request) refl))
    where
      alike : (q : ℕ) (b : Bool) → eq_by_cmp nat_cmp q request ≡ b → cond b (Some its) (get answers q) ≡ get answers q
      alike q true same = sym is ∙ ap (get answers) (sym (one_number q request same))
      alike q false same = refl

  -- what was looked up is there
  pub posted_kept : (found : Option (Bor (Told Dir))) → option_copied found ≡ get answers request → is_some found ≡ true → answers ≡ posted_in request answers
  posted_kept None is there = absurd (let no : false ≡ true = there in cc)
  posted_kept (Some its) is there = posted_again its.now (sym is)
