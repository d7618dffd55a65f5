use Rattle.std.proofs.Common.{◌≡◌, ◌++◌, take}
use Rattle.std.specs.List.{flat_map}
use Rattle.seq_calculus.specs.Lists.{written_node}
use Rattle.text_writer.proofs.canon.write_nodes.Given as goal

abbrev pub invariant-loop-node : goal.invariant-loop-node
invariant-loop-node l = l.list.items ≡ l.fn.list.items ++ flat_map written_node (take l.node-index l.nodes)
