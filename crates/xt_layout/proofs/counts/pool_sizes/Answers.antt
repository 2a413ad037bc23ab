use Rattle.std.proofs.Common.{ap, ◌∙◌, get_or}
use Rattle.xt_layout.proofs.Counting.{put_back, zero_at}
use Rattle.xt_layout.proofs.counts.pool_sizes.Goals as goal

pub count_words-requires-clause-none : goal.count_words-requires-clause-none
count_words-requires-clause-none c = λ k. ap (λ xs. get_or xs k 0) (c.as_mut_slice.ensures.value ∙ c.in_ok-pools.ensures.items_if_clones_equal (λ y same. same)) ∙ zero_at c.args.n k

pub returns : goal.returns
returns c = put_back c.args.words.now c.args.n _ c.as_mut_slice.result.now c.count_words.new.counts _ c.count_words.auto.counts c.as_mut_slice.ensures.len c.in_ok-pools.ensures.len c.count_words.ensures
