-- Each half has fewer edges.
use Rattle.pages.proofs.search.+go_down.Given as goal

abbrev pub decreases-go_down : goal.decreases-go_down
decreases-go_down l = l.edges
