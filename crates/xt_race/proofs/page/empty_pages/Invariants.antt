use Rattle.std.proofs.Common.{◌≡◌, [], length, replicate}
use Rattle.xt_race.proofs.page.empty_pages.Given as goal

abbrev pub invariant-loop-page : goal.invariant-loop-page
invariant-loop-page l = (l.pages.items ≡ replicate l._page []) × (length l.pages.items ≡ l._page)
