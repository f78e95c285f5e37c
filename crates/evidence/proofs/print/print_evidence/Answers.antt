use Rattle.std.proofs.Common.{rules, ◌≡◌, ◌++◌, ap, ◌∙◌, codes, refl, Ok, Err}
use Rattle.std.specs.Result.{OnErr}
use Rattle.retro_base.specs.Text.{AppendsPrefix}
use Rattle.evidence.specs.Spelling.{change_text, edit_text, row_text, spaced, spelling}
use Rattle.evidence.proofs.PrintedPart.{third_broken, fourth_broken, fifth_broken}
use Rattle.evidence.proofs.print.print_evidence.Goals as goal

pub returns-in_err-print_edit-clause-err : goal.returns-in_err-print_edit-clause-err
unfolding spelling
returns-in_err-print_edit-clause-err c =
    let e = c.args.evidence.now in
    let part : AppendsPrefix c.args.out.now c.print_edit.new.out (spelling e) =
    third_broken c.args.out.now c.push_all.new.self c.push_all-2.new.self c.push_all-2.new.self c.push_all-2.new.self c.print_edit.new.out
    (codes "edit ") e.name (spaced (edit_text e.added e.place)) (spaced (row_text e.number e.op)) (spaced (change_text e.change))
    c.in_ok-push_all.ensures.ok (c.in_ok-push_all-2.ensures.ok ∙ ap (λ name. c.push_all.new.self ++ name) c.bytes.ensures.same)
    c.in_err-print_edit.ensures.err in
    search rules

pub returns-in_err-print_row-clause-err : goal.returns-in_err-print_row-clause-err
unfolding spelling
returns-in_err-print_row-clause-err c =
    let e = c.args.evidence.now in
    let part : AppendsPrefix c.args.out.now c.print_row.new.out (spelling e) =
    fourth_broken c.args.out.now c.push_all.new.self c.push_all-2.new.self c.print_edit.new.out c.print_edit.new.out c.print_row.new.out
    (codes "edit ") e.name (spaced (edit_text e.added e.place)) (spaced (row_text e.number e.op)) (spaced (change_text e.change))
    c.in_ok-push_all.ensures.ok (c.in_ok-push_all-2.ensures.ok ∙ ap (λ name. c.push_all.new.self ++ name) c.bytes.ensures.same)
    c.in_ok-print_edit.ensures.ok c.in_err-print_row.ensures.err in
    search rules

pub returns-clause-err : goal.returns-clause-err
unfolding spelling
returns-clause-err c =
    let e = c.args.evidence.now in
    elim c.print_change.result as (λ r. c.print_change.result ≡ r → OnErr r (AppendsPrefix c.args.out.now c.print_change.new.out (spelling e))) [
      | Ok x ↦ λ is. tt
      | Err x ↦ λ is.
          fifth_broken c.args.out.now c.push_all.new.self c.push_all-2.new.self c.print_edit.new.out c.print_row.new.out c.print_change.new.out
          (codes "edit ") e.name (spaced (edit_text e.added e.place)) (spaced (row_text e.number e.op)) (spaced (change_text e.change))
          c.in_ok-push_all.ensures.ok (c.in_ok-push_all-2.ensures.ok ∙ ap (λ name. c.push_all.new.self ++ name) c.bytes.ensures.same)
          c.in_ok-print_edit.ensures.ok c.in_ok-print_row.ensures.ok (rw is at c.print_change.ensures.err)
    ] refl
