use Rattle.xt_layout.proofs.addresses.signed_all.Goals as goal

pub signed-requires : goal.signed-requires
signed-requires c = c.requires c.loop-address.address-index 0 c.loop-address-test.true
