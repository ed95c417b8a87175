-- `RunCharts`: what the chart of a run of a program in its places is drawn by, and its text
-- `RunDue`: what is due for the bytes of three files
pub mod RunCharts
pub mod RunDue
