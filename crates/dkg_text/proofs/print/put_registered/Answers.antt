use Rattle.std.proofs.Common.{◌≡◌, ℕ, List, ◌++◌, append_assoc, sym, ap, ◌∙◌}
use Rattle.std.specs.Prelude.{codes}
use Rattle.std.proofs.lemmas.Result.{on_ok_weaker}
use Rattle.dkg_text.specs.Fields.{number_field, word_field}
use Rattle.dkg_text.proofs.print.put_registered.Goals as goal

-- a word and two fields, one after another
written : (before word one two now then after : List ℕ) → now ≡ before ++ word → then ≡ now ++ one → after ≡ then ++ two → after ≡ before ++ (word ++ one ++ two)
written before word one two now then after w o t = t ∙ rw (o, w) (append_assoc (before ++ word) one two ∙ append_assoc before word (one ++ two) ∙ ap (λ x. before ++ x) (sym (append_assoc word one two)))

pub returns : goal.returns
returns c =
    let number = c.in_ok-number.ensures ∙ ap (λ n. c.put.new.self ++ number_field n) c.epoch.view_is in
    let field = ap word_field c.role_word.ensures in
    on_ok_weaker c.word.result (λ end. written _ (codes "registered") _ _ _ _ _ c.in_ok-put.ensures number (end ∙ ap (λ f. c.number.new.self ++ f) field)) c.word.ensures
