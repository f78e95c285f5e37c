use Rattle.std.proofs.Common.{rules}
use Rattle.weighted_tree.proofs.Descents.{sizes_of}
use Rattle.weighted_tree.proofs.subtree.Subtree.+copy.Goals as goal

pub copy-requires : goal.copy-requires
copy-requires g t c κs within =
    let node = c.in-Some.node.now in
    let sizes = sizes_of c.args.self.now.items node.left.items node.right.items node.item c.in-Some.ensures.0.items_are in
    search rules

pub returns-in_err-left-clause-err_visits : goal.returns-in_err-left-clause-err_visits
returns-in_err-left-clause-err_visits g t c =
    let node = c.in-Some.node.now in
    let sizes = sizes_of c.args.self.now.items node.left.items node.right.items node.item c.in-Some.ensures.0.items_are in
    search rules

pub copy-requires-2 : goal.copy-requires-2
copy-requires-2 g t c κs within =
    let node = c.in-Some.node.now in
    let sizes = sizes_of c.args.self.now.items node.left.items node.right.items node.item c.in-Some.ensures.0.items_are in
    search rules

pub returns-in_err-right-clause-err_visits : goal.returns-in_err-right-clause-err_visits
returns-in_err-right-clause-err_visits g t c =
    let node = c.in-Some.node.now in
    let sizes = sizes_of c.args.self.now.items node.left.items node.right.items node.item c.in-Some.ensures.0.items_are in
    search rules

pub returns-in_err-copy-clause-err_visits : goal.returns-in_err-copy-clause-err_visits
returns-in_err-copy-clause-err_visits g t c =
    let node = c.in-Some.node.now in
    let sizes = sizes_of c.args.self.now.items node.left.items node.right.items node.item c.in-Some.ensures.0.items_are in
    search rules

pub of_root-requires-clause-fits : goal.of_root-requires-clause-fits
of_root-requires-clause-fits g t c =
    let node = c.in-Some.node.now in
    let sizes = sizes_of c.args.self.now.items node.left.items node.right.items node.item c.in-Some.ensures.0.items_are in
    search rules

pub returns-clause-items : goal.returns-clause-items
returns-clause-items g t c =
    let node = c.in-Some.node.now in
    let sizes = sizes_of c.args.self.now.items node.left.items node.right.items node.item c.in-Some.ensures.0.items_are in
    search rules

pub returns-clause-ok_visits : goal.returns-clause-ok_visits
returns-clause-ok_visits g t c =
    let node = c.in-Some.node.now in
    let sizes = sizes_of c.args.self.now.items node.left.items node.right.items node.item c.in-Some.ensures.0.items_are in
    search rules
