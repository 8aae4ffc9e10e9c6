use Rattle.std.proofs.Common.{◌≡◌, true, false, Some, None, sym, ◌∙◌, rules}
use Rattle.std.specs.Result.{result_ok}
use Rattle.text.specs.Numbers.{unpadded}
use Rattle.text.proofs.Reading.{no_text_read, text_read, padded, parsed_copy, plus-first}
use Rattle.text.proofs.numbers.read_number.Goals as goal

pub returns-then-not-is_unpadded : goal.returns-then-not-is_unpadded
returns-then-not-is_unpadded c = let e : unpadded c.args.text.now ≡ false = search rules in sym (padded c.args.text.now e)

pub returns-then-text-eq43 : goal.returns-then-text-eq43
returns-then-text-eq43 c = sym (plus-first c.args.text.now c.if-text-eq43.true)

pub returns-in_err-ok : goal.returns-in_err-ok
returns-in_err-ok c =
    let none : result_ok c.from_utf8.result ≡ None = search rules in
    c.from_residual.ensures ∙ sym (no_text_read c.args.text.now _ c.from_utf8.result none c.from_utf8.ensures.cases)

pub returns : goal.returns
returns c =
    let t = c.args.text.now in
    let u : unpadded t ≡ true = search rules in
    let some : result_ok c.from_utf8.result ≡ Some c.in_ok-ok.field-0 = search rules in
    let same = text_read t _ c.from_utf8.result c.in_ok-ok.field-0 some c.from_utf8.ensures.cases in
    c.ok-2.ensures.value ∙ parsed_copy t c.in_ok-ok.field-0.now c.parse.result same u c.if-text-eq43.false c.parse.ensures.value.0
