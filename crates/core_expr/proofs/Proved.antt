-- The laws that are contracts.
use Rattle.std.proofs.Common.{◌+◌, ◌∙◌, arith, refl}
use Rattle.core_expr.specs.Laws.{PuttingInCommutes, MovingCommutes, MovingScopes, MovingKeepsForm, ScopeIsLoose, ClosedStays, SubstitutionKeepsScopes, PuttingInScopes, PuttingInKeepsForm, NodesGiveBack, SameIsEqual, ScopedIsTested, MadeShows, MadeIsFormed, ShownMakes, ShownFits, LastIsRoot, NodeShows, NodeIsCanonical, CanonicalIsNode}
use Rattle.core_expr.specs.Coding.{tree_of-rows_of}
use Rattle.core_expr.specs.Equal.{scoped-true, true-scoped}
use Rattle.core_expr.specs.Keys.{same-Decides}
use Rattle.core_expr.proofs.Laws.{sub-put, sub-shift, size-shifts, IsScoped-shift, IsScoped-put, IsScoped-sub, put_closed, shift_closed}
use Rattle.core_expr.proofs.LooseLaws.{loose-scoped, IsScoped-from_loose}
use Rattle.core_expr.proofs.Formed.{formed-shift, formed-inst}
use Rattle.core_expr.proofs.PlaceLaws.{last_root}
use Rattle.core_expr.proofs.Shown.{made-shows, made-formed, shown-makes, shown-fits}
use Rattle.core_expr.proofs.NodeLaws.{node-shows, node-formed, node-canonical, canonical-node_make, canonical-node_fits}

pub putting_in_commutes : PuttingInCommutes
putting_in_commutes = sub-put

pub moving_commutes : MovingCommutes
moving_commutes = sub-shift

pub moving_scopes : MovingScopes
moving_scopes = (λ n c k e h. IsScoped-shift n c k (n + k) e refl h, size-shifts)

pub moving_keeps_form : MovingKeepsForm
moving_keeps_form = λ c k e h. formed-shift c k e ∙ h

pub scope_is_loose : ScopeIsLoose
scope_is_loose = λ n e. (loose-scoped n e, IsScoped-from_loose n e)

pub closed_stays : ClosedStays
closed_stays = λ t h. (λ d ts. put_closed 0 d ts t (omega arith) h, λ c k. shift_closed 0 c k t (omega arith) h)

pub substitution_keeps_scopes : SubstitutionKeepsScopes
substitution_keeps_scopes = IsScoped-sub

pub putting_in_scopes : PuttingInScopes
putting_in_scopes = λ n d ts e h. IsScoped-put n d (n + d) ts e refl h

pub putting_in_keeps_form : PuttingInKeepsForm
putting_in_keeps_form = formed-inst

pub nodes_give_back : NodesGiveBack
nodes_give_back = tree_of-rows_of

pub same_is_equal : SameIsEqual
same_is_equal = same-Decides

pub scoped_is_tested : ScopedIsTested
scoped_is_tested = λ n t. (scoped-true n t, true-scoped n t)

pub made_shows : MadeShows
made_shows = made-shows

pub made_is_formed : MadeIsFormed
made_is_formed = made-formed

pub shown_makes : ShownMakes
shown_makes = shown-makes

pub shown_fits : ShownFits
shown_fits = shown-fits

pub last_is_root : LastIsRoot
last_is_root = last_root

pub node_shows : NodeShows
node_shows = node-shows

pub node_is_canonical : NodeIsCanonical
node_is_canonical = λ h ns ts w v c. (node-formed h ns ts w v, node-canonical h ns ts w c)

pub canonical_is_node : CanonicalIsNode
canonical_is_node = λ t w c. (canonical-node_make t c, canonical-node_fits t w c)
