use Rattle.ck_objects.proofs.SetLemmas.{given-key}
use Rattle.ck_objects.proofs.keys.Key.set.Goals as goal

pub returns : goal.returns
returns c =
    let items = c.args.items.now in
    let formed = c.requires.well_formed in
    rw c.change.ensures
    (given-key items c.args.self.now c.flag_or-self.result c.flag_or-self-2.result
    c.flag_or-self-3.result
    c.flag_or-self-4.result c.flag_or-self-5.result c.state_or-self.result formed c.requires.keeps
    (c.flag_or-self.ensures.bytes formed) (c.flag_or-self-2.ensures.bytes formed)
    (c.flag_or-self-3.ensures.bytes formed) (c.flag_or-self-4.ensures.bytes formed)
    (c.flag_or-self-5.ensures.bytes formed) (c.state_or-self.ensures))
