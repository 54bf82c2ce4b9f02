use Rattle.ck_plays.specs.Devices.{IsReadOf, IsWrittenTo}
use Rattle.ck_program.proofs.DeviceLemmas.{all-written, end-found, is-unread, is-unwritten}
use Rattle.ck_program.proofs.DeviceLemmas.{unread, unwritten}
use Rattle.ck_program.proofs.programs.run_on_std.Goals as goal

pub returns-clause-end_found : goal.returns-clause-end_found
returns-clause-end_found g c chosen is play done =
    end-found chosen (g.R.Read.remaining c.run.new.reader.reader) c.run.new.reader.counts
    (IsWrittenTo (g.W.Write.contents c.run.new.writer.writer) c.run.new.writer.failures) play
    (c.run.ensures.played chosen is done unread unwritten
    (is-unread (g.R.Read.remaining c.args.reader.now.reader) c.args.reader.now.counts
    c.requires.unread)
    (is-unwritten (g.W.Write.contents c.args.writer.now.writer) c.args.writer.now.failures
    c.requires.unwritten))

pub returns-clause-all_written : goal.returns-clause-all_written
returns-clause-all_written g c chosen is done =
    all-written chosen (g.W.Write.contents c.run.new.writer.writer) c.run.new.writer.failures
    (IsReadOf (g.R.Read.remaining c.run.new.reader.reader) c.run.new.reader.counts)
    (c.run.ensures.played chosen is done unread unwritten
    (is-unread (g.R.Read.remaining c.args.reader.now.reader) c.args.reader.now.counts
    c.requires.unread)
    (is-unwritten (g.W.Write.contents c.args.writer.now.writer) c.args.writer.now.failures
    c.requires.unwritten))
