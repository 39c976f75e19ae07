use Rattle.pim_mirror.specs.Config.{fresh_seen}
use Rattle.pim_mirror.proofs.Answered.{stands, records, demand, writes, no_echo, knows, room, full}
use Rattle.pim_mirror.proofs.mirroring.mirror.Goals as goal

pub returns-clause-stands : goal.returns-clause-stands
returns-clause-stands g c =
    stands c.mirror_answers_for_the_form.ensures g.F.Family.family c.args.writer.now c.args.messages.now (fresh_seen g.F.Family.bytes_of c.args.fresh.now) c.is_sound.ensures c.is_writing.ensures c.requires.fits
    c.go_through.result c.go_through.ensures

pub returns-clause-records : goal.returns-clause-records
returns-clause-records g c =
    records c.mirror_answers_for_the_form.ensures g.F.Family.family c.args.writer.now c.args.messages.now (fresh_seen g.F.Family.bytes_of c.args.fresh.now) c.is_sound.ensures c.is_writing.ensures c.requires.fits
    c.go_through.result c.go_through.ensures

pub returns-clause-demand : goal.returns-clause-demand
returns-clause-demand g c =
    demand c.mirror_answers_for_the_form.ensures g.F.Family.family c.args.writer.now c.args.messages.now (fresh_seen g.F.Family.bytes_of c.args.fresh.now) c.is_sound.ensures c.is_writing.ensures c.requires.fits
    c.go_through.result c.go_through.ensures

pub returns-clause-messages : goal.returns-clause-messages
returns-clause-messages g c =
    writes c.mirror_answers_for_the_form.ensures g.F.Family.family c.args.writer.now c.args.messages.now (fresh_seen g.F.Family.bytes_of c.args.fresh.now) c.is_sound.ensures c.is_writing.ensures c.requires.fits
    c.go_through.result c.go_through.ensures

pub returns-clause-no_echo : goal.returns-clause-no_echo
returns-clause-no_echo g c =
    no_echo c.mirror_answers_for_the_form.ensures g.F.Family.family c.args.writer.now c.args.messages.now (fresh_seen g.F.Family.bytes_of c.args.fresh.now) c.is_sound.ensures c.is_writing.ensures c.requires.fits
    c.go_through.result c.go_through.ensures

pub returns-clause-writer : goal.returns-clause-writer
returns-clause-writer g c =
    knows c.mirror_answers_for_the_form.ensures g.F.Family.family c.args.writer.now c.args.messages.now (fresh_seen g.F.Family.bytes_of c.args.fresh.now) c.is_sound.ensures c.is_writing.ensures c.requires.fits
    c.go_through.result c.go_through.ensures

pub returns-clause-room : goal.returns-clause-room
returns-clause-room g c =
    room c.mirror_answers_for_the_form.ensures g.F.Family.family c.args.writer.now c.args.messages.now (fresh_seen g.F.Family.bytes_of c.args.fresh.now) c.is_sound.ensures c.is_writing.ensures c.requires.fits
    c.go_through.result c.go_through.ensures

pub returns-clause-full : goal.returns-clause-full
returns-clause-full g c =
    full c.mirror_answers_for_the_form.ensures g.F.Family.family c.args.writer.now c.args.messages.now (fresh_seen g.F.Family.bytes_of c.args.fresh.now) c.is_sound.ensures c.is_writing.ensures c.requires.fits
    c.go_through.result c.go_through.ensures
