-- What has been appended of five texts where the third, the fourth or the fifth was broken off.
use Rattle.std.proofs.Common.{◌≡◌, ℕ, List, ◌++◌}
use Rattle.retro_base.specs.Text.{AppendsPrefix}
use Rattle.retro_base.specs.TextLaws.{prefix_of_longer, prefix_after}

module _ (old first second third fourth new a b c d e : List ℕ) (head : first ≡ old ++ a) (name : second ≡ first ++ b) where
  pub third_broken : AppendsPrefix second new c → AppendsPrefix old new (a ++ (b ++ (c ++ (d ++ e))))
  third_broken part = prefix_after old first new a _ head (prefix_after first second new b _ name (prefix_of_longer second new c (d ++ e) part))

  module _ (edit : third ≡ second ++ c) where
    pub fourth_broken : AppendsPrefix third new d → AppendsPrefix old new (a ++ (b ++ (c ++ (d ++ e))))
    fourth_broken part =
        prefix_after old first new a _ head (prefix_after first second new b _ name (prefix_after second third new c _ edit (prefix_of_longer third new d e part)))

    pub fifth_broken : fourth ≡ third ++ d → AppendsPrefix fourth new e → AppendsPrefix old new (a ++ (b ++ (c ++ (d ++ e))))
    fifth_broken row part =
        prefix_after old first new a _ head (prefix_after first second new b _ name (prefix_after second third new c _ edit (prefix_after third fourth new d e row part)))
