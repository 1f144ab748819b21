-- The lines on the error output, and how a line is put there.
use Rattle.std.specs.Prelude.{ℕ, List, [], ◌++◌, take, codes}
use Rattle.std.specs.Fmt.{decimal}
use Rattle.dev_traits.specs.Change.{Change, IsFaultless, Grew}
use Rattle.svo_base.specs.declared.grids.GridFault.{GridFault}
use Rattle.svo_base.specs.declared.grids.GridFault.TheVariants.{Depth, Origin, Cell, TooWide}
use Rattle.ply_reader.specs.declared.fault.PlyKind.{PlyKind}
use Rattle.ply_reader.specs.declared.fault.PlyKind.TheVariants as kind
use Rattle.svo_top.specs.declared.outcome.Status.{Status}
use Rattle.svo_top.specs.declared.outcome.Status.TheVariants.{Done, Usage, Input, Range, Device, Refused, Memory}
use Rattle.svo_top.specs.declared.outcome.UsageKind.{UsageKind}
use Rattle.svo_top.specs.declared.outcome.UsageKind.TheVariants.{Command, Options, Value}
use Rattle.svo_top.specs.declared.outcome.InputKind.{InputKind}
use Rattle.svo_top.specs.declared.outcome.InputKind.TheVariants.{Ply, BadRay, BadPoint, LineTooLong, TooLong}
use Rattle.svo_top.specs.declared.outcome.RangeFault.{RangeFault}
use Rattle.svo_top.specs.declared.outcome.RangeFault.TheVariants.{Decimals, Grid, TooLarge, TooSmall, Triangle, Cube, Keep, Code, Made, Slice, View, Ray, Point, Grids, Levels}
use Rattle.svo_top.specs.declared.outcome.Device.{Device as DeviceName}
use Rattle.svo_top.specs.declared.outcome.Device.TheVariants.{Read, Scratch, Write, Nodes}
use Rattle.svo_top.specs.declared.outcome.NodeRefusal.{NodeRefusal}
use Rattle.svo_top.specs.declared.outcome.NodeRefusal.TheVariants.{NoFile, NotNodes, Number, WithNoFile, WithNotNodes, WithNumber}

abbrev pub usage_word : UsageKind → List ℕ
usage_word Command = codes "command"
usage_word Options = codes "options"
usage_word Value = codes "value"

-- a refused mesh is named as its kind is spelled
abbrev pub ply_word : PlyKind → List ℕ
ply_word kind.NotPly = codes "NotPly"
ply_word kind.BadFormat = codes "BadFormat"
ply_word kind.BadHeader = codes "BadHeader"
ply_word kind.HeaderTooLarge = codes "HeaderTooLarge"
ply_word kind.NoVertexElement = codes "NoVertexElement"
ply_word kind.NoFaceElement = codes "NoFaceElement"
ply_word kind.FaceFirst = codes "FaceFirst"
ply_word kind.LineTooLong = codes "LineTooLong"
ply_word kind.Truncated = codes "Truncated"
ply_word kind.BadNumber = codes "BadNumber"
ply_word kind.NotWhole = codes "NotWhole"
ply_word kind.OutOfRange = codes "OutOfRange"
ply_word kind.BadCount = codes "BadCount"
ply_word kind.BadIndex = codes "BadIndex"
ply_word kind.TokenTooLong = codes "TokenTooLong"
ply_word kind.TrailingData = codes "TrailingData"
ply_word kind.TooLong = codes "TooLong"

abbrev pub input_word : InputKind → List ℕ
input_word (Ply kind) = ply_word kind
input_word BadRay = codes "BadRay"
input_word BadPoint = codes "BadPoint"
input_word LineTooLong = codes "LineTooLong"
input_word TooLong = codes "TooLong"

abbrev pub grid_word : GridFault → List ℕ
grid_word Depth = codes "depth"
grid_word Origin = codes "origin"
grid_word Cell = codes "cell"
grid_word TooWide = codes "wide"

abbrev pub range_word : RangeFault → List ℕ
range_word Decimals = codes "decimals"
range_word (Grid fault) = grid_word fault
range_word TooLarge = codes "memory"
range_word (TooSmall least) = codes "memory least " ++ decimal least
range_word Triangle = codes "triangle"
range_word Cube = codes "cube"
range_word Keep = codes "keep"
range_word Code = codes "code"
range_word Made = codes "made"
range_word Slice = codes "slice"
range_word View = codes "view"
range_word (Ray place) = codes "ray at " ++ decimal place
range_word (Point place) = codes "point at " ++ decimal place
range_word Grids = codes "grids"
range_word Levels = codes "levels"

abbrev pub device_word : DeviceName → List ℕ
device_word Read = codes "read"
device_word Scratch = codes "scratch"
device_word Write = codes "write"
device_word Nodes = codes "nodes"

-- the option that names the refused file
abbrev pub refusal_side : NodeRefusal → List ℕ
refusal_side NoFile = codes "nodes: "
refusal_side NotNodes = codes "nodes: "
refusal_side (Number number) = codes "nodes: "
refusal_side WithNoFile = codes "with: "
refusal_side WithNotNodes = codes "with: "
refusal_side (WithNumber number) = codes "with: "

abbrev pub refusal_word : NodeRefusal → List ℕ
refusal_word NoFile = codes "no file"
refusal_word NotNodes = codes "not a node file"
refusal_word (Number number) = codes "number " ++ decimal number ++ codes " refused"
refusal_word WithNoFile = codes "no file"
refusal_word WithNotNodes = codes "not a node file"
refusal_word (WithNumber number) = codes "number " ++ decimal number ++ codes " refused"

-- the line of a run that stopped; a run that is done has a line of its command's own, or none
unfoldable pub stop_line : Status → List ℕ
stop_line Done = []
stop_line (Usage kind) = codes "usage: " ++ usage_word kind ++ codes "\n"
stop_line (Input kind place) = codes "input: " ++ input_word kind ++ codes " at " ++ decimal place ++ codes "\n"
stop_line (Range fault) = codes "range: " ++ range_word fault ++ codes "\n"
stop_line (Device device) = codes "device: " ++ device_word device ++ codes "\n"
stop_line (Refused refusal) = refusal_side refusal ++ refusal_word refusal ++ codes "\n"
stop_line Memory = codes "memory\n"

-- the line of a finished build
unfoldable pub built_line : ℕ → ℕ → ℕ → List ℕ
built_line cells records parts =
    codes "built cells " ++ decimal cells ++ codes " records " ++ decimal records ++ codes " parts " ++ decimal parts ++ codes "\n"

-- the line was put out, and some front of it where the device failed
pub record Says (err : Change) (line : List ℕ) : Type 0 where
  pub whole : IsFaultless err → Grew err line
  pub front : (n : ℕ) × Grew err (take n line)
