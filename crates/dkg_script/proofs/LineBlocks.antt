-- Each block of a script is the one of its line, over the blocks of the lines before it.
use Rattle.std.proofs.Common.{◌≡◌, ℕ, zero, suc, ◌+◌, ◌≤◌, List, [], ◌∷◌, ◌++◌, Some, None, refl, sym, ap, subst, ◌∙◌, arith, length, take, append_assoc, append-nil}
use Rattle.std.specs.Prelude.{fold, slice_get}
use Rattle.std.proofs.Math.Seq.{take-append_seam}
use Rattle.std.proofs.lemmas.List.{length-append}
use Rattle.std.proofs.lemmas.Option.{slice_get_past}
use Rattle.dkg_text.specs.declared.script.BlockLine.{BlockLine}
use Rattle.dkg_script.specs.Blocks.{ScriptBlock, numbered_block, block_of, blocks}
use Rattle.dkg_script.specs.Setting.{Setting}

seam : {A : Type 0} (xs : List A) (y : A) (ys : List A) → slice_get (xs ++ y ∷ ys) (length xs) ≡ Some y
seam [] y ys = refl
seam (x ∷ xs) y ys = seam xs y ys

none_there : {A : Type 0} (x : A) → None ≡ Some x → ⊥
none_there x e = cc

same_there : {A : Type 0} (x y : A) → Some x ≡ Some y → x ≡ y
same_there x y e = cc

none_before : (n : ℕ) → 0 + n ≡ n
none_before n = omega arith

module _ (s : Setting) where
  abbrev one_more : List ScriptBlock → BlockLine → List ScriptBlock
  one_more before line = before ++ block_of s before line ∷ []

  -- what stands there stays
  grown : (before : List ScriptBlock) (lines : List BlockLine) → (rest : List ScriptBlock) × (fold one_more before lines ≡ before ++ rest)
  grown before [] = ([], sym (append-nil before))
  grown before (line ∷ lines) = let more = grown (one_more before line) lines in
      (block_of s before line ∷ more.0, more.1 ∙ append_assoc before (block_of s before line ∷ []) more.0)

  -- the list at its n-th block
  record IsAt (all : List ScriptBlock) (n : ℕ) (line : BlockLine) : Type 0 where
    before : List ScriptBlock
    rest : List ScriptBlock
    parts : all ≡ before ++ block_of s before line ∷ rest
    many : length before ≡ n

  at_line : (before : List ScriptBlock) (lines : List BlockLine) (i : ℕ) (line : BlockLine) → slice_get lines i ≡ Some line → IsAt (fold one_more before lines) (length before + i) line
  at_line before [] i line is = absurd (none_there line is)
  at_line before (x ∷ lines) zero line is =
      let e : x ≡ line = same_there x line is in
      let more = grown (one_more before x) lines in
      let all : fold one_more before (x ∷ lines) ≡ before ++ block_of s before x ∷ more.0 = more.1 ∙ append_assoc before (block_of s before x ∷ []) more.0 in
      record { before = before; rest = more.0; parts = all ∙ ap (λ (y : BlockLine). before ++ block_of s before y ∷ more.0) e; many = omega arith }
  at_line before (x ∷ lines) (suc i) line is =
      let rest = at_line (one_more before x) lines i line is in
      record { before = rest.before; rest = rest.rest; parts = rest.parts; many = omega (arith, rest.many, length-append before (block_of s before x ∷ [])) }

  found : (all : List ScriptBlock) (n : ℕ) (line : BlockLine) → IsAt all n line → slice_get all n ≡ Some (block_of s (take n all) line)
  found all n line is = rw (is.parts, ← is.many)
      (seam is.before (block_of s is.before line) is.rest ∙ ap (λ (before : List ScriptBlock). Some (block_of s before line)) (sym (take-append_seam is.before (block_of s is.before line ∷ is.rest))))

  as_long : (before : List ScriptBlock) (lines : List BlockLine) → length (fold one_more before lines) ≡ length before + length lines
  as_long before [] = omega arith
  as_long before (x ∷ lines) = omega (arith, as_long (one_more before x) lines, length-append before (block_of s before x ∷ []))

  pub of_line : (number : ℕ) (line : BlockLine) → slice_get s.script.blocks number ≡ Some line → numbered_block s number ≡ Some (block_of s (take number (blocks s)) line)
  of_line number line is = found (blocks s) number line (subst (λ (n : ℕ). IsAt (blocks s) n line) (none_before number) (at_line [] s.script.blocks number line is))

  -- there are no others
  pub no_line : (number : ℕ) → length s.script.blocks ≤ number → numbered_block s number ≡ None
  no_line number past = slice_get_past (blocks s) number (omega (arith, as_long [] s.script.blocks))
