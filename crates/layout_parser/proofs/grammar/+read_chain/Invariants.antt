use Rattle.layout_parser.proofs.grammar.+read_chain.Given as goal

abbrev pub decreases-read_chain : goal.decreases-read_chain
decreases-read_chain l = l.left
