use Rattle.std.proofs.Common.{◌≡◌, ◌++◌, ℕ, List, length, vec_items, ap, ◌∙◌}
use Rattle.office.specs.Desk.{Desk, desk, new_desk}
use Rattle.rules.specs.Books.{Books, setup}
use Rattle.replay.specs.Replaying.{all_answers, begun, place}
use Rattle.replay.proofs.Replays.{owed_of}
use Rattle.replay.proofs.keep_books.Goals as goal

pub returns-clause-written : goal.returns-clause-written
returns-clause-written g c =
    let ids = g.row.IDS in
    let begin = c.args.begin in
    let log = c.args.log.now in
    let intervals = c.as_mut_slice.ensures.len ∙ c.in_ok-intervals.ensures.len in
    let lines = c.as_mut_slice-2.ensures.len ∙ c.in_ok-lines.ensures.len in
    let starts : desk c.new-office.result ≡ begun ids begin =
    c.new-office.ensures
    ∙ ap (λ (books : Books). new_desk ids books) c.setup-journal.ensures
    ∙ ap (λ (n : ℕ). new_desk ids (setup n (length c.as_mut_slice-2.result.now) begin.year begin.line)) intervals
    ∙ ap (λ (n : ℕ). new_desk ids (setup begin.intervals n begin.year begin.line)) lines in
    let all : vec_items c.new-out.result ++ all_answers ids log.vocabulary (place log (desk c.new-office.result)) ≡ all_answers ids log.vocabulary (place log (begun ids begin)) =
    ap (λ (xs : List ℕ). xs ++ all_answers ids log.vocabulary (place log (desk c.new-office.result))) c.new-out.ensures.items
    ∙ ap (λ (d : Desk). all_answers ids log.vocabulary (place log d)) starts in
    owed_of _ _ _ _ _ _ all c.answer_lines.ensures.written
