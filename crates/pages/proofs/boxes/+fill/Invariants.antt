-- Each half has fewer edges.
use Rattle.pages.proofs.boxes.+fill.Given as goal

abbrev pub decreases-fill : goal.decreases-fill
decreases-fill l = l.edges
