-- The second word, and then the first.
use borrow.Author.Tests.{eq-eqb, ne_eqb}
use borrow.Author.Rules.{rules}
use Rattle.site.proofs.Values.{same_words}
use Rattle.site.proofs.lookup.same_eight.Goals as goal

pub returns-then-get : goal.returns-then-get
returns-then-get c =
    let w = same_words c.args.a.now c.args.b.now (search rules) (search rules) c.args.i c.args.j c.requires.0 c.requires.1 in
    rw (w, ← c.get.ensures, ← c.get-2.ensures, eq-eqb _ _ c.if-get.true, c.get-then-get.ensures, c.get-then-get-2.ensures)

pub returns-else-get : goal.returns-else-get
returns-else-get c =
    let w = same_words c.args.a.now c.args.b.now (search rules) (search rules) c.args.i c.args.j c.requires.0 c.requires.1 in
    rw (w, ← c.get.ensures, ← c.get-2.ensures, ne_eqb _ _ c.if-get.false)
