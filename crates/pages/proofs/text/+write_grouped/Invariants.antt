-- `pages::text::write_grouped` ends: a thousandth is less.
use Rattle.pages.proofs.text.+write_grouped.Given as goal

abbrev pub decreases-write_grouped : goal.decreases-write_grouped
decreases-write_grouped g l = l.n
