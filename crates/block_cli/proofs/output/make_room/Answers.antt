-- One turn of the loop over the files, and its end.
use Rattle.std.proofs.Common.{◌≡◌, ℕ, ◌≤◌, List, length, subst, ◌∙◌, arith}
use Rattle.std.specs.Global.{Vec}
use Rattle.std.specs.Vec.{vec_len}
use Rattle.std.proofs.lemmas.List.{length-map, take_all}
use Rattle.block_cli.specs.Answer.{File}
use Rattle.block_cli.specs.Inside.{file_in, files_in, HaveRoom}
use Rattle.block_cli.proofs.FileLists.{goes_further, room_step}
use Rattle.block_cli.proofs.output.make_room.Goals as goal

size : (n : ℕ) (bytes : Vec ℕ) → n ≡ vec_len bytes → n ≡ length bytes.items
size n bytes is = omega (arith, bytes.ok)

pub loop-file-preserved : goal.loop-file-preserved
loop-file-preserved g c =
    let seen = g.F.Files.seen in
    let so_far = c.loop-file.invariant in
    record {
      goes = goes_further (seen c.args.files.now) (seen c.loop-file.files) (seen c.ready.new.self) so_far.goes c.ready.ensures.goes;
      same = c.ready.ensures.same ∙ so_far.same;
      room = room_step c.args.written.now c.loop-file.file-index c.file-item.result c.loop-file-test.true c.file-item.is c.len.result (size c.len.result c.file-item.result.bytes c.len.ensures) (seen c.loop-file.files) (seen c.ready.new.self) so_far.room c.in_ok-ready.ensures;
    }

pub returns-clause-room : goal.returns-clause-room
returns-clause-room g c =
    let files = files_in c.args.written.now in
    let all : length files ≤ c.loop-file.file-index = omega (arith, length-map c.args.written.now file_in, c.loop-file-test.false) in
    subst (λ (fs : List File). HaveRoom fs (g.F.Files.seen c.loop-file.files)) (take_all c.loop-file.file-index files all) c.loop-file.invariant.room
