use Rattle.weighted_tree.proofs.uncounted.partition_point.Given as goal

abbrev pub ghosts-find_partition : goal.ghosts-find_partition
ghosts-find_partition g a = record { name = a.blank.name; parts = a.blank.parts }
